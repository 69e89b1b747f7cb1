-- The hit of a ray and a triangle as a value: the triangle hit and what it tells, as one function. Definitions of what a
-- query answers stand on it. (Own.)
use Rattle.std.specs.Prelude.{ℕ, ◌/◌, ℤ, pos, negsuc, unsigned_abs, Bool, true, false, Option}
use Rattle.ray_geom.specs.declared.tri_hit.TriHit.{TriHit}
use Rattle.ray_geom.specs.declared.raw_hit.RawHit.{RawHit}
use Rattle.ray_geom.specs.Scene.{RayValue, TriValue}
use Rattle.ray_geom.specs.Frac.{numerator, denominator}
use Rattle.ray_geom.specs.Gauss.{gcd_exists}
use Rattle.ray_geom.specs.TriangleHit.{num_of, den_of, second_volume, third_volume}
use Rattle.ray_geom.specs.Decided.{where_so, hit_decided}

-- what a hit tells: distance and barycentrics as numerator and denominator, and whether the determinant is negative
pub record HitValue : Type 0 where
  pub t : ℕ × ℕ
  pub u : ℕ × ℕ
  pub v : ℕ × ℕ
  pub den_negative : Bool

-- numerator and denominator, divided by their greatest common divisor
abbrev pub lowest_terms : ℕ → ℕ → ℕ × ℕ
lowest_terms num den = (num / (gcd_exists num den).0, den / (gcd_exists num den).0)

-- the quotient of two whole numbers of one sign, in lowest terms
abbrev pub quotient : ℤ → ℤ → ℕ × ℕ
quotient num den = lowest_terms (unsigned_abs num) (unsigned_abs den)

-- whether a whole number is negative
abbrev pub is_negative : ℤ → Bool
is_negative (pos n) = false
is_negative (negsuc n) = true

-- the distance, the second and the third volume over the determinant, in lowest terms, and whether the determinant is
-- negative
abbrev pub told_of : RayValue → TriValue → HitValue
told_of ray tri = record {
  t = quotient (num_of ray tri) (den_of ray tri);
  u = quotient (second_volume ray tri) (den_of ray tri);
  v = quotient (third_volume ray tri) (den_of ray tri);
  den_negative = is_negative (den_of ray tri);
}

-- a hit whose fractions are in lowest terms, of one whose fractions aren't yet
abbrev pub reduced_hit : RawHit → TriHit
reduced_hit hit = record { t = hit.t; u = hit.u; v = hit.v; den_negative = hit.den_negative }

-- the hit of a ray and a triangle, where there is one
abbrev pub hit_of : RayValue → TriValue → Option HitValue
hit_of ray tri = where_so (hit_decided ray tri) (told_of ray tri)

-- a hit of the program as a value
abbrev pub hit_value : TriHit → HitValue
hit_value hit = record {
  t = (numerator hit.t, denominator hit.t);
  u = (numerator hit.u, denominator hit.u);
  v = (numerator hit.v, denominator hit.v);
  den_negative = hit.den_negative;
}
