use Rattle.std.proofs.Common.{rules}
use Rattle.std.proofs.lemmas.Int.{to_z-of_z}
use Rattle.ray_geom.proofs.Bounds.{dot_fits}
use Rattle.ray_geom.proofs.hit.edge_of.Goals as goal

pub cross-normal-requires-clause-a_short : goal.cross-normal-requires-clause-a_short
cross-normal-requires-clause-a_short c = c.minus.ensures.short (search rules) (search rules)

pub cross-normal-requires-clause-b_short : goal.cross-normal-requires-clause-b_short
cross-normal-requires-clause-b_short c = c.minus-2.ensures.short (search rules) (search rules)

pub dot-volume-requires : goal.dot-volume-requires
dot-volume-requires c = dot_fits _ _ (search rules) (search rules)

pub returns : goal.returns
returns c = search (rules, to_z-of_z)
