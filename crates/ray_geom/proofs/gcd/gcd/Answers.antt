use Rattle.std.proofs.Common.{arith, ◌^◌}
use Rattle.std.specs.Int.{trailing_zeros, w64}
use Rattle.std.proofs.lemmas.Nat.Bits.{bit_at-trailing_zeros}
use Rattle.ray_geom.proofs.Odd.{low_bits, IsGcd-shifted}
use Rattle.ray_geom.proofs.gcd.gcd.Goals as goal

pub returns : goal.returns
returns c =
    let y_bits = bit_at-trailing_zeros w64 c.args.y (omega arith) c.ranges.y.fits in
    IsGcd-shifted (2 ^ 64) (trailing_zeros w64 c.args.x) (trailing_zeros w64 c.args.y) c.args.x c.args.y c.odd_part.result c.min-twos.result
    c.gcd_of_odd.result (omega arith) c.ranges.x.fits c.odd_part.ensures.parts c.odd_part.ensures.odd (low_bits _ c.args.y y_bits.2) y_bits.1
    c.min-twos.ensures c.gcd_of_odd.ensures
