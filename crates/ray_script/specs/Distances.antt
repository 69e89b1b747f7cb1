-- The distance that a rule spells as num / den. (Own.)
use Rattle.std.specs.Prelude.{ℕ, ◌≡◌, ◌^◌, ◌<◌, ◌≤◌, Bool, true, false}
use Rattle.std.proofs.Common.{arith, refl}
use Rattle.std.proofs.lemmas.Bool.Decides.{nat_tests}
use Rattle.ray_geom.specs.declared.frac.Frac.{Frac}
use Rattle.ray_geom.specs.Fraction.{IsFraction, IsSameValue}
use Rattle.ray_geom.specs.Frac.{numerator, denominator}
use Rattle.ray_geom.specs.Gauss.{gcd_exists}
use Rattle.ray_geom.specs.HitValue.{lowest_terms}
use Rattle.ray_geom.proofs.Fractions.{IsFraction-div, IsLowest-div}
use Rattle.ray_script.specs.declared.raw_choice.RawChoice.TheVariants.{At}
use Rattle.ray_script.specs.Scripts.{is_choice_in_range}

-- the fraction of these numbers, within the limits of fractions, in lowest terms
abbrev pub fraction_of : (num den : ℕ) → IsFraction num den → Frac
fraction_of num den within = record {
  num = (lowest_terms num den).0;
  den = (lowest_terms num den).1;
  limits = IsFraction-div num den (gcd_exists num den).0 within (gcd_exists num den).1;
  lowest = IsLowest-div num den (gcd_exists num den).0 within.den_positive (gcd_exists num den).1;
}

-- the numbers of a rule in range are those of a fraction
pub within_limits : (num den : ℕ) → is_choice_in_range (At num den) ≡ true → IsFraction num den
within_limits num den fit =
    let facts : (0 < den) × (den ≤ 65536) × (num ≤ 2 ^ 40) = grind (arith, nat_tests) in
    record { den_positive = facts.0; den_limit = omega arith; num_limit = omega arith }

-- 0 / 1 is a fraction
pub zero_within : IsFraction 0 1
zero_within = record { den_positive = omega arith; den_limit = omega arith; num_limit = omega arith }

-- the distance num / den, by whether the two are in range
abbrev pub distance_by : (num den : ℕ) (b : Bool) → is_choice_in_range (At num den) ≡ b → Frac
distance_by num den true fit = fraction_of num den (within_limits num den fit)
distance_by num den false fit = fraction_of 0 1 zero_within

-- the distance num / den where the two are in range, by value: 2 / 4 is 1 / 2. Else 0, which no
-- script has
unfoldable pub distance_at : ℕ → ℕ → Frac
distance_at num den = distance_by num den (is_choice_in_range (At num den)) refl

-- a distance in range has the value of its numbers
abbrev pub HasValue : Type 0
HasValue =
    (num den : ℕ) → is_choice_in_range (At num den) ≡ true
    → IsSameValue (numerator (distance_at num den)) (denominator (distance_at num den)) num den

-- two spellings of one value are one distance
abbrev pub SpellingIsFree : Type 0
SpellingIsFree =
    (num den other_num other_den : ℕ) → is_choice_in_range (At num den) ≡ true
    → is_choice_in_range (At other_num other_den) ≡ true
    → IsSameValue num den other_num other_den → distance_at num den ≡ distance_at other_num other_den
