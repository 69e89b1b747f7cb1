-- How large the numbers of the triangle test are: a coordinate difference is at most 2^20, a minor
-- of two at most 2^41, and a volume, the determinant and the numerator at most 3 * 2^61.
use Rattle.std.proofs.Common.{ℕ, ◌+◌, ◌*◌, ◌^◌, ◌≤◌, arith}
use Rattle.std.specs.Prelude.{ℤ, ◌*ℤ◌}
use Rattle.std.specs.Int.{w64}
use Rattle.std.specs.Int.RustNames.{FitsSigned, unsigned_abs}
use Rattle.std.proofs.lemmas.Int.{ints, unsigned_abs-mul}
use Rattle.std.proofs.Math.Nat.{mul-le-mul}
use Rattle.ray_geom.specs.declared.vec3.Vec3.{Vec3}
use Rattle.ray_geom.specs.Vector.{IsWithin, IsShort, minor_of}
use Rattle.ray_geom.specs.Fits.{DotFits, MinusFits}

IsWithin-abs : (m : ℕ) (z : ℤ) → IsWithin m z → unsigned_abs z ≤ m
IsWithin-abs m z h = omega (arith, ints)

abs-IsWithin : (m : ℕ) (z : ℤ) → unsigned_abs z ≤ m → IsWithin m z
abs-IsWithin m z h = omega (arith, ints)

-- the bound of a product
pub IsWithin-mul : (m n : ℕ) (a b : ℤ) → IsWithin m a → IsWithin n b → IsWithin (m * n) (a *ℤ b)
IsWithin-mul m n a b p q =
    let product : unsigned_abs a * unsigned_abs b ≤ m * n =
    mul-le-mul (IsWithin-abs m a p) (IsWithin-abs n b q) in
    abs-IsWithin (m * n) (a *ℤ b) (omega (arith, unsigned_abs-mul a b))

-- each number on the way to a minor fits, and the minor is at most 2^41
pub record MinorFits (a b c d : ℤ) : Type 0 where
  pub left : FitsSigned w64 (a *ℤ d)
  pub right : FitsSigned w64 (b *ℤ c)
  pub all : FitsSigned w64 (minor_of a b c d)
  pub within : IsWithin (2 ^ 41) (minor_of a b c d)

pub minor_fits : (a b c d : ℤ) →
    IsWithin (2 ^ 20) a → IsWithin (2 ^ 20) b → IsWithin (2 ^ 20) c → IsWithin (2 ^ 20) d → MinorFits a b c d
minor_fits a b c d p q r s =
    let left : IsWithin (2 ^ 20 * 2 ^ 20) (a *ℤ d) = IsWithin-mul (2 ^ 20) (2 ^ 20) a d p s in
    let right : IsWithin (2 ^ 20 * 2 ^ 20) (b *ℤ c) = IsWithin-mul (2 ^ 20) (2 ^ 20) b c q r in
    omega (arith, ints)

-- a scalar product of a difference and a cross product, and of others that are no larger
pub dot_fits : (a b : Vec3) → IsShort (2 ^ 20) a → IsShort (2 ^ 41) b → DotFits a b
dot_fits a b p q =
    let x : IsWithin (2 ^ 20 * 2 ^ 41) (a.x *ℤ b.x) =
    IsWithin-mul (2 ^ 20) (2 ^ 41) a.x b.x p.x_within q.x_within in
    let y : IsWithin (2 ^ 20 * 2 ^ 41) (a.y *ℤ b.y) =
    IsWithin-mul (2 ^ 20) (2 ^ 41) a.y b.y p.y_within q.y_within in
    let z : IsWithin (2 ^ 20 * 2 ^ 41) (a.z *ℤ b.z) =
    IsWithin-mul (2 ^ 20) (2 ^ 41) a.z b.z p.z_within q.z_within in
    omega (arith, ints)

-- the same for a row of an adjugate
pub weigh_fits : (a b : Vec3) → IsShort (2 ^ 25) a → IsShort (2 ^ 19 + 2 ^ 20) b → DotFits a b
weigh_fits a b p q =
    let x : IsWithin (2 ^ 25 * (2 ^ 19 + 2 ^ 20)) (a.x *ℤ b.x) =
    IsWithin-mul (2 ^ 25) (2 ^ 19 + 2 ^ 20) a.x b.x p.x_within q.x_within in
    let y : IsWithin (2 ^ 25 * (2 ^ 19 + 2 ^ 20)) (a.y *ℤ b.y) =
    IsWithin-mul (2 ^ 25) (2 ^ 19 + 2 ^ 20) a.y b.y p.y_within q.y_within in
    let z : IsWithin (2 ^ 25 * (2 ^ 19 + 2 ^ 20)) (a.z *ℤ b.z) =
    IsWithin-mul (2 ^ 25) (2 ^ 19 + 2 ^ 20) a.z b.z p.z_within q.z_within in
    omega (arith, ints)

-- and for a row of a transform with a point, or with a cross product
pub row_fits : (a b : Vec3) → IsShort (2 ^ 12) a → IsShort (2 ^ 41) b → DotFits a b
row_fits a b p q = dot_fits a b (omega (arith, ints)) q

pub point_fits : (a b : Vec3) → IsShort (2 ^ 12) a → IsShort (2 ^ 19) b → DotFits a b
point_fits a b p q = dot_fits a b (omega (arith, ints)) (omega (arith, ints))

-- the difference of two points
pub minus_fits : (a b : Vec3) → IsShort (2 ^ 19) a → IsShort (2 ^ 19) b → MinusFits a b
minus_fits a b p q = omega (arith, ints)
