-- Each number on the way fits.
use Rattle.std.proofs.Common.{rules}
use Rattle.std.proofs.lemmas.Int.{to_z-of_z}
use Rattle.ray_geom.specs.Fits.{DotFits}
use Rattle.ray_geom.proofs.vec3.dot.Goals as goal

pub overflow_mul-result : goal.overflow_mul-result
overflow_mul-result c =
    let f : DotFits c.args.a c.args.b = c.requires in search (rules, to_z-of_z)

pub overflow_mul-result-2 : goal.overflow_mul-result-2
overflow_mul-result-2 c =
    let f : DotFits c.args.a c.args.b = c.requires in search (rules, to_z-of_z)

pub overflow_add-result : goal.overflow_add-result
overflow_add-result c =
    let f : DotFits c.args.a c.args.b = c.requires in search (rules, to_z-of_z)

pub overflow_mul-result-3 : goal.overflow_mul-result-3
overflow_mul-result-3 c =
    let f : DotFits c.args.a c.args.b = c.requires in search (rules, to_z-of_z)

pub overflow_add-result-2 : goal.overflow_add-result-2
overflow_add-result-2 c =
    let f : DotFits c.args.a c.args.b = c.requires in search (rules, to_z-of_z)

pub returns-clause-value : goal.returns-clause-value
returns-clause-value c =
    let f : DotFits c.args.a c.args.b = c.requires in search (rules, to_z-of_z)

pub returns-clause-short : goal.returns-clause-short
returns-clause-short c =
    let f : DotFits c.args.a c.args.b = c.requires in search (rules, to_z-of_z)
