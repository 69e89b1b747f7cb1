-- The fraction of a numerator and a denominator in lowest terms, and that of numbers that are not. (Own.)
use Rattle.std.specs.Prelude.{ℕ, ◌≡◌, ◌*◌, ◌^◌, ◌/◌}
use Rattle.std.specs.Int.{◌∣◌}
use Rattle.std.proofs.Common.{arith, subst}
use Rattle.std.proofs.Math.Nat.{eq-one_of_dvd-one}
use Rattle.ray_geom.specs.declared.frac.Frac.{Frac}
use Rattle.ray_geom.specs.Fraction.{IsFraction, IsLowest}
use Rattle.ray_geom.specs.Gauss.{gcd_exists}
use Rattle.ray_geom.specs.Decided.{at_most, both, same_as}

-- numerator and denominator are within the limits of fractions, and in lowest terms
pub record IsReduced (num den : ℕ) : Type 0 where
  pub limits : IsFraction num den
  pub lowest : IsLowest num den

-- 0, which is 0/1
pub zero_reduced : IsReduced 0 1
zero_reduced = record {
  limits = record { den_positive = omega arith; den_limit = omega arith; num_limit = omega arith };
  lowest = record { only_one = λ d in_num in_den. eq-one_of_dvd-one in_den };
}

-- ---- that each two numbers either are so, or aren't

same_number : (m n : ℕ) → Dec (m ≡ n)
same_number m n = same_as (λ h. let one = h.0 in let other = h.1 in omega arith) (λ e. (omega arith, omega arith)) (both (at_most m n) (at_most n m))

lowest_decided : (num den : ℕ) → Dec (IsLowest num den)
lowest_decided num den =
    let g = gcd_exists num den in
    same_as
    (λ one. record { only_one = λ d in_num in_den. eq-one_of_dvd-one (subst (λ n. d ∣ n) one (g.1.2 d in_num in_den)) })
    (λ h. h.only_one g.0 g.1.0 g.1.1)
    (same_number g.0 1)

fraction_decided : (num den : ℕ) → Dec (IsFraction num den)
fraction_decided num den = same_as
    (λ h. record { den_positive = h.0; den_limit = h.1.0; num_limit = h.1.1 })
    (λ h. (h.den_positive, (h.den_limit, h.num_limit)))
    (both (at_most 1 den) (both (at_most den (3 * 2 ^ 61)) (at_most num (3 * 2 ^ 61))))

pub reduced_decided : (num den : ℕ) → Dec (IsReduced num den)
reduced_decided num den = same_as (λ h. record { limits = h.0; lowest = h.1 }) (λ h. (h.limits, h.lowest))
    (both (fraction_decided num den) (lowest_decided num den))

-- the fraction of these numbers, where they are so
abbrev pub fraction_where : (num den : ℕ) → Dec (IsReduced num den) → Frac
fraction_where num den (yes h) = record { num = num; den = den; limits = h.limits; lowest = h.lowest }
fraction_where num den (no h) = record { num = 0; den = 1; limits = zero_reduced.limits; lowest = zero_reduced.lowest }

-- the fraction of a numerator and a denominator within the limits, in lowest terms; what a ray meets within
-- its limits has no others, and of others it is 0
unfoldable pub fraction_of : ℕ × ℕ → Frac
fraction_of parts = fraction_where parts.0 parts.1 (reduced_decided parts.0 parts.1)

-- the fraction of a numerator and a denominator that aren't in lowest terms
abbrev pub lowest_of : ℕ → ℕ → Frac
lowest_of num den = fraction_of (num / (gcd_exists num den).0, den / (gcd_exists num den).0)
