use Rattle.std.proofs.Common.{subst, length}
use Rattle.ray_tree.specs.Local.{IsFit}
use Rattle.ray_tree.specs.Trees.{IsShape}
use Rattle.ray_tree.proofs.Locals.{fit_at}
use Rattle.ray_bottom.proofs.bottom.Bottom.fits.Goals as goal

pub returns : goal.returns
returns c =
    let tree = c.args.self.now.tree in
    let shape : IsShape tree = subst IsShape c.tree.ensures.value c.shape.ensures in
    (subst (IsFit (length tree.order) (length tree.nodes)) c.requires.same (fit_at tree shape c.args._leaf.node c.requires.node.small)).2
