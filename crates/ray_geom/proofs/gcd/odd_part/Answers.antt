use Rattle.std.specs.Int.{w64}
use Rattle.std.proofs.lemmas.Nat.Bits.{bit_at-trailing_zeros}
use Rattle.ray_geom.proofs.Odd.{low_bits}
use Rattle.ray_geom.proofs.gcd.odd_part.Goals as goal

pub returns-clause-parts : goal.returns-clause-parts
returns-clause-parts c = low_bits _ c.args.x (bit_at-trailing_zeros w64 c.args.x c.requires c.ranges.x.fits).2

pub returns-clause-odd : goal.returns-clause-odd
returns-clause-odd c = (bit_at-trailing_zeros w64 c.args.x c.requires c.ranges.x.fits).1
