use Rattle.std.proofs.Common.{rules}
use Rattle.ray_geom.proofs.Bounds.{weigh_fits}
use Rattle.ray_geom.proofs.adjugate.Adjugate.times.Goals as goal

pub dot-requires : goal.dot-requires
dot-requires c = weigh_fits _ _ (search rules) (search rules)

pub dot-requires-2 : goal.dot-requires-2
dot-requires-2 c = weigh_fits _ _ (search rules) (search rules)

pub dot-requires-3 : goal.dot-requires-3
dot-requires-3 c = weigh_fits _ _ (search rules) (search rules)
