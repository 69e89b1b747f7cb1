use Rattle.std.proofs.Common.{rules}
use Rattle.std.proofs.lemmas.Int.{to_z-of_z}
use Rattle.ray_geom.proofs.Bounds.{point_fits}
use Rattle.ray_geom.proofs.matrix.place.Goals as goal

pub dot-requires : goal.dot-requires
dot-requires c = point_fits _ _ (search rules) (search rules)

pub returns : goal.returns
returns c = search (rules, to_z-of_z)
