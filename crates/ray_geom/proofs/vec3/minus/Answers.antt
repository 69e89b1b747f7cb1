-- Each difference fits, and is as short as the sum of the two.
use Rattle.std.proofs.Common.{rules}
use Rattle.std.proofs.lemmas.Int.{to_z-of_z}
use Rattle.ray_geom.specs.Fits.{MinusFits}
use Rattle.ray_geom.proofs.vec3.minus.Goals as goal

pub returns-clause-value : goal.returns-clause-value
returns-clause-value c = let f : MinusFits c.args.a c.args.b = c.requires in search (rules, to_z-of_z)
