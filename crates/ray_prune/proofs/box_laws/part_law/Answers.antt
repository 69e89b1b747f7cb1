use Rattle.ray_geom.proofs.LeastBoxes.{IsIn-part}
use Rattle.ray_prune.proofs.Unions.{IsPart-same}
use Rattle.ray_prune.proofs.box_laws.part_law.Goals as goal

pub returns-clause-points : goal.returns-clause-points
returns-clause-points c = λ part p is. IsIn-part p c.args._inner.now c.args._outer.now part is

pub returns-clause-same : goal.returns-clause-same
returns-clause-same c = λ forth back. IsPart-same c.args._inner.now c.args._outer.now forth back
