use Rattle.std.proofs.Common.{◌+◌, ◌∙◌, sym, ap, subst, arith}
use Rattle.ray_climb.specs.Ready.{AreParentsBelow, marked}
use Rattle.ray_climb.proofs.Boxed.{kids_below, parents_more, parents_all}
use Rattle.ray_climb.proofs.parents.mark_all.Goals as goal

pub mark-requires : goal.mark-requires
mark-requires c = kids_below _ _ _ c.node.result (sym c.loop-n.invariant.long) c.node.ensures.limits

pub loop-n-preserved : goal.loop-n-preserved
loop-n-preserved c =
    subst (λ ps. AreParentsBelow c.args.tree.now ps (c.loop-n.n + 1)) (sym (c.mark.ensures ∙ ap (λ x. marked c.loop-n.parents x c.loop-n.n) c.node.ensures.value))
    (parents_more c.args.tree.now c.shape.ensures c.loop-n.parents c.loop-n.n (omega arith) c.loop-n.invariant)

pub returns : goal.returns
returns c = parents_all c.args.tree.now c.shape.ensures c.loop-n.parents c.loop-n.n (omega arith) c.loop-n.invariant
