use Rattle.std.proofs.Common.{rules}
use Rattle.std.proofs.lemmas.Int.{to_z-of_z}
use Rattle.ray_geom.proofs.Bounds.{dot_fits, minus_fits}
use Rattle.ray_geom.proofs.Determinant.{den_of-dot_of}
use Rattle.ray_geom.proofs.hit.measure.Goals as goal

pub cross-normal-requires-clause-a_short : goal.cross-normal-requires-clause-a_short
cross-normal-requires-clause-a_short c = c.minus.ensures.short (search rules) (search rules)

pub cross-normal-requires-clause-b_short : goal.cross-normal-requires-clause-b_short
cross-normal-requires-clause-b_short c = c.minus-2.ensures.short (search rules) (search rules)

pub minus-requires-3 : goal.minus-requires-3
minus-requires-3 c = minus_fits _ _ (search rules) (search rules)

pub dot-requires : goal.dot-requires
dot-requires c =
    dot_fits _ _ (c.minus-3.ensures.short (search rules) (search rules)) (search rules)

pub dot-requires-2 : goal.dot-requires-2
dot-requires-2 c = dot_fits _ _ (search rules) (search rules)

pub returns : goal.returns
returns c =
    let same = den_of-dot_of c.args.ray.now c.args.tri.now in
    search (rules, to_z-of_z)
