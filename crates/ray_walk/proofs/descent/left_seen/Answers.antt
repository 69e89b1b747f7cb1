use Rattle.std.proofs.Common.{subst}
use Rattle.ray_lanes.specs.declared.lanes.Lanes8.{Lanes8}
use Rattle.ray_walk.specs.Aims.{AreMet}
use Rattle.ray_walk.proofs.Narrowing.{left-seen}
use Rattle.ray_walk.proofs.descent.left_seen.Goals as goal

pub returns-clause-out : goal.returns-clause-out
returns-clause-out c =
    left-seen c.args.trees.now c.requires.trees c.args._limit c.args.w c.requires.node c.det-det.ensures.limits c.args.window.now c.requires.window c.overlap8-met.result
    (subst (λ (l : Lanes8). AreMet l c.args.window.now c.overlap8-met.result) c.lanes.ensures c.overlap8-met.ensures)
