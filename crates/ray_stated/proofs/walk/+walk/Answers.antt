use Rattle.std.proofs.Common.{◌∙◌, None, sym, arith}
use Rattle.ray_stated.proofs.Walks.{walk_stop, walk_out, walk_leaf, walk_away, walk_inner, walk_astray, walk_on}
use Rattle.ray_stated.proofs.walk.+walk.Goals as goal

pub returns-then-levels-eq0-clause-value : goal.returns-then-levels-eq0-clause-value
returns-then-levels-eq0-clause-value t c = walk_stop c.args.levels c.args.nodes.now c.args.at c.args.place (omega arith)

pub returns-then-at-nodes-clause-value : goal.returns-then-at-nodes-clause-value
returns-then-at-nodes-clause-value t c = walk_out c.args.levels c.args.nodes.now c.args.at c.args.place (omega arith) (omega arith)

pub returns-in-Leaf-clause-value : goal.returns-in-Leaf-clause-value
returns-in-Leaf-clause-value t c =
    c.ends_of_leaf.ensures
    ∙ sym (walk_leaf c.args.levels c.args.nodes.now c.args.at c.args.place (omega arith) (omega arith) c.in-Leaf.first c.in-Leaf.count (sym c.in-Leaf.ensures))

pub returns-then-left-at-clause-value : goal.returns-then-left-at-clause-value
returns-then-left-at-clause-value t c =
    walk_away c.args.levels c.args.nodes.now c.args.at c.args.place (omega arith) (omega arith) c.in-Inner.left c.in-Inner.right (sym c.in-Inner.ensures)
    (λ e. omega arith)

pub returns-in-None-clause-value : goal.returns-in-None-clause-value
returns-in-None-clause-value t c =
    sym (walk_inner c.args.levels c.args.nodes.now c.args.at c.args.place (omega arith) (omega arith) c.in-Inner.left c.in-Inner.right None
    (sym c.in-Inner.ensures) (omega arith) (sym c.walk.ensures.value ∙ c.in-None.is))

pub returns-then-right-e-clause-value : goal.returns-then-right-e-clause-value
returns-then-right-e-clause-value t c =
    walk_astray c.args.levels c.args.nodes.now c.args.at c.args.place (omega arith) (omega arith) c.in-Inner.left c.in-Inner.right c.in-Some.e
    (sym c.in-Inner.ensures) (omega arith) (sym c.walk.ensures.value ∙ c.in-Some.is) (λ e. omega arith)

pub returns-else-right-e-clause-value : goal.returns-else-right-e-clause-value
returns-else-right-e-clause-value t c =
    c.walk-in-Some.ensures.value
    ∙ sym (walk_on c.args.levels c.args.nodes.now c.args.at c.args.place (omega arith) (omega arith) c.in-Inner.left c.in-Inner.right c.in-Some.e
    (sym c.in-Inner.ensures) (omega arith) (sym c.walk.ensures.value ∙ c.in-Some.is) (omega arith))
