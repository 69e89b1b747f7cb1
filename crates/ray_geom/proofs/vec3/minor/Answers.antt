-- Each number on the way fits.
use Rattle.std.proofs.Common.{rules}
use Rattle.std.proofs.lemmas.Int.{to_z-of_z}
use Rattle.ray_geom.proofs.Bounds.{MinorFits, minor_fits}
use Rattle.ray_geom.proofs.vec3.minor.Goals as goal

pub overflow_sub-result : goal.overflow_sub-result
overflow_sub-result c =
    let f : MinorFits c.args.a c.args.b c.args.c c.args.d =
    minor_fits _ _ _ _ c.requires.a_short c.requires.b_short c.requires.c_short c.requires.d_short in
    search (rules, to_z-of_z)

pub returns-clause-value : goal.returns-clause-value
returns-clause-value c =
    let f : MinorFits c.args.a c.args.b c.args.c c.args.d =
    minor_fits _ _ _ _ c.requires.a_short c.requires.b_short c.requires.c_short c.requires.d_short in
    search (rules, to_z-of_z)

pub returns-clause-short : goal.returns-clause-short
returns-clause-short c =
    let f : MinorFits c.args.a c.args.b c.args.c c.args.d =
    minor_fits _ _ _ _ c.requires.a_short c.requires.b_short c.requires.c_short c.requires.d_short in
    search (rules, to_z-of_z)
