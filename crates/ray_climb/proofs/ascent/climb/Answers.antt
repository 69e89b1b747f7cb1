use Rattle.std.proofs.Common.{◌∙◌, subst}
use Rattle.ray_tree.specs.Trees.{IsShape}
use Rattle.ray_climb.proofs.Framed.{climbs_up}
use Rattle.ray_climb.proofs.ascent.climb.Goals as goal

pub loop-at-smaller : goal.loop-at-smaller
loop-at-smaller c =
    climbs_up c.args.refit.now (subst (λ r. IsShape r.tree) c.requires.keyed c.requires.table.ready.shape) c.loop-at.at.node c.load-at.result.node
    c.loop-at.invariant.2 c.loop-at-test.true (c.load-at.ensures.node ∙ c.up-up.ensures.parent)
