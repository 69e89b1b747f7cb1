use Rattle.std.proofs.Common.{rules}
use Rattle.std.proofs.lemmas.Int.{to_z-of_z}
use Rattle.ray_geom.proofs.matrix.Matrix.apply.Goals as goal

pub returns-then-is_short : goal.returns-then-is_short
returns-then-is_short c = search (rules, to_z-of_z)

pub returns-else-is_short : goal.returns-else-is_short
returns-else-is_short c = search (rules, to_z-of_z)
