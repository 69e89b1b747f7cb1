use Rattle.std.proofs.Common.{sym, arith, ap, ◌∙◌, ◌-◌, ◌++◌, ◌∷◌, []}
use Rattle.ray_tree.specs.declared.leaves.Wait.{Wait}
use Rattle.ray_tree.proofs.Waiting.{step_none, step_leaf, step_inner}
use Rattle.ray_tree.proofs.leaves.step_down.Goals as goal

pub returns-then-wait-eq0 : goal.returns-then-wait-eq0
returns-then-wait-eq0 c = step_none c.args.nodes.now c.args.wait c.args.waits.now.items c.args.leaves.now.items (omega arith)

pub returns-in_ok-push-in-Leaf : goal.returns-in_ok-push-in-Leaf
returns-in_ok-push-in-Leaf c =
    step_leaf c.args.nodes.now c.args.wait c.args.waits.now.items c.args.leaves.now.items c.push.new.self.items c.in-Leaf.first c.in-Leaf.count
    (omega arith) (sym c.in-Leaf.ensures) c.in_ok-push-in-Leaf.ensures.items

pub returns-in_ok-push-in-Inner-2 : goal.returns-in_ok-push-in-Inner-2
returns-in_ok-push-in-Inner-2 c =
    let left : Wait = record { at = c.in-Inner.left; levels = c.args.wait.levels - 1 } in
    step_inner c.args.nodes.now c.args.wait c.args.waits.now.items c.push-in-Inner-2.new.self.items c.args.leaves.now.items c.in-Inner.left c.in-Inner.right
    (omega arith) (sym c.in-Inner.ensures)
    (c.in_ok-push-in-Inner-2.ensures.items ∙ ap (λ ws. ws ++ (left ∷ [])) c.in_ok-push-in-Inner.ensures.items)
