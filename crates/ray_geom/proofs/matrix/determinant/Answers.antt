use Rattle.std.proofs.Common.{rules}
use Rattle.std.proofs.lemmas.Int.{to_z-of_z}
use Rattle.ray_geom.proofs.Bounds.{row_fits}
use Rattle.ray_geom.proofs.Sizes.{det_within}
use Rattle.ray_geom.proofs.matrix.determinant.Goals as goal

pub dot-requires : goal.dot-requires
dot-requires c = row_fits _ _ (search rules) (search rules)

pub returns-clause-short : goal.returns-clause-short
returns-clause-short c =
    let within = det_within _ _ _ c.requires.a_short c.requires.b_short c.requires.c_short in
    search (rules, to_z-of_z)
