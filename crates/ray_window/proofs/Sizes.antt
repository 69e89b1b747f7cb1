-- How large the numbers on the way to a spot are.
use Rattle.std.proofs.Common.{ℕ, ◌+◌, ◌*◌, ◌^◌, ◌<◌, arith}
use Rattle.std.specs.Prelude.{ℤ, pos, ◌*ℤ◌}
use Rattle.std.proofs.lemmas.Int.{ints}
use Rattle.ray_geom.specs.Vector.{IsWithin}
use Rattle.ray_geom.proofs.Bounds.{IsWithin-mul}
use Rattle.ray_geom.specs.ObjectRay.{ObjectRayValue, IsObjectRay}
use Rattle.ray_window.specs.Lines.{IsLine, AreLines, SumFits}

pub SumFits-line : (det o m : ℤ) (n d : ℕ) → IsLine det o m → n < 2 ^ 64 → d < 2 ^ 64 → SumFits o m (pos n) (pos d)
SumFits-line det o m n d line n_short d_short =
    let n_within : IsWithin (2 ^ 64) (pos n) = omega (arith, ints) in
    let d_within : IsWithin (2 ^ 64) (pos d) = omega (arith, ints) in
    let o_within = line.o_short in
    let m_within = line.m_short in
    let left : IsWithin (3 * 2 ^ 25 * (2 ^ 19 + 2 ^ 20) * 2 ^ 64) (o *ℤ pos d) =
    IsWithin-mul (3 * 2 ^ 25 * (2 ^ 19 + 2 ^ 20)) (2 ^ 64) o (pos d) o_within d_within in
    let right : IsWithin (2 ^ 64 * (3 * 2 ^ 45)) (pos n *ℤ m) =
    IsWithin-mul (2 ^ 64) (3 * 2 ^ 45) (pos n) m n_within m_within in
    omega (arith, ints)

-- the numbers of a ray, on each axis
pub AreLines-ray : (object : ObjectRayValue) → IsObjectRay object → AreLines object.det object.origin object.dir
AreLines-ray object is = record {
  x = record { det_short = is.det_short; det_not_zero = is.det_not_zero; o_short = is.origin_short.x_within; m_short = is.dir_short.x_within };
  y = record { det_short = is.det_short; det_not_zero = is.det_not_zero; o_short = is.origin_short.y_within; m_short = is.dir_short.y_within };
  z = record { det_short = is.det_short; det_not_zero = is.det_not_zero; o_short = is.origin_short.z_within; m_short = is.dir_short.z_within };
}
