-- How large the numbers of a transform are: an entry of the adjugate is at most 2^25 and the
-- determinant at most 6 * 2^36.
use Rattle.std.proofs.Common.{ℕ, ◌*◌, ◌^◌, arith}
use Rattle.std.specs.Prelude.{ℤ, ◌*ℤ◌}
use Rattle.std.proofs.lemmas.Int.{ints}
use Rattle.ray_geom.specs.declared.vec3.Vec3.{Vec3}
use Rattle.ray_geom.specs.Vector.{IsWithin, IsShort, minor_of, cross_of, dot_of}
use Rattle.ray_geom.proofs.Bounds.{IsWithin-mul}

minor_within : (a b c d : ℤ) →
    IsWithin (2 ^ 12) a → IsWithin (2 ^ 12) b → IsWithin (2 ^ 12) c → IsWithin (2 ^ 12) d →
    IsWithin (2 ^ 25) (minor_of a b c d)
minor_within a b c d p q r s =
    let left : IsWithin (2 ^ 12 * 2 ^ 12) (a *ℤ d) = IsWithin-mul (2 ^ 12) (2 ^ 12) a d p s in
    let right : IsWithin (2 ^ 12 * 2 ^ 12) (b *ℤ c) = IsWithin-mul (2 ^ 12) (2 ^ 12) b c q r in
    omega (arith, ints)

-- an entry of the adjugate, since its columns are cross products of the rows
pub cross_short : (a b : Vec3) → IsShort (2 ^ 12) a → IsShort (2 ^ 12) b → IsShort (2 ^ 25) (cross_of a b)
cross_short a b p q = record {
  x_within = minor_within a.y a.z b.y b.z p.y_within p.z_within q.y_within q.z_within;
  y_within = minor_within a.z a.x b.z b.x p.z_within p.x_within q.z_within q.x_within;
  z_within = minor_within a.x a.y b.x b.y p.x_within p.y_within q.x_within q.y_within;
}

-- a scalar product
pub dot_within : (m n : ℕ) (a b : Vec3) → IsShort m a → IsShort n b → IsWithin (3 * (m * n)) (dot_of a b)
dot_within m n a b p q =
    let x : IsWithin (m * n) (a.x *ℤ b.x) = IsWithin-mul m n a.x b.x p.x_within q.x_within in
    let y : IsWithin (m * n) (a.y *ℤ b.y) = IsWithin-mul m n a.y b.y p.y_within q.y_within in
    let z : IsWithin (m * n) (a.z *ℤ b.z) = IsWithin-mul m n a.z b.z p.z_within q.z_within in
    omega (arith, ints)

-- the determinant
pub det_within : (a b c : Vec3) →
    IsShort (2 ^ 12) a → IsShort (2 ^ 12) b → IsShort (2 ^ 12) c → IsWithin (6 * 2 ^ 36) (dot_of a (cross_of b c))
det_within a b c p q r =
    let within : IsWithin (3 * (2 ^ 12 * 2 ^ 25)) (dot_of a (cross_of b c)) =
    dot_within (2 ^ 12) (2 ^ 25) a (cross_of b c) p (cross_short b c q r) in
    omega (arith, ints)
