-- A fraction in lowest terms that is within the limits keeps its numbers.
use Rattle.std.proofs.Common.{ℕ, ◌≡◌, ◌*◌, refl, sym, ◌∙◌}
use Rattle.ray_geom.specs.Fraction.{IsFraction, IsSameValue}
use Rattle.ray_geom.specs.Frac.{numerator, denominator}
use Rattle.ray_geom.specs.Gauss.{gcd_exists}
use Rattle.ray_geom.specs.HitValue.{lowest_terms}
use Rattle.ray_geom.proofs.Fractions.{IsLowest-div, IsFraction-div, IsSameValue-div}
use Rattle.ray_geom.specs.Reduced.{IsReduced, fraction_of, fraction_where, reduced_decided}
use Rattle.ray_candidates.specs.Laws.{KeepsNumbers}

-- the fraction where the numbers are so
record Keeps (n d : ℕ) (dec : Dec (IsReduced n d)) : Type 0 where
  pub num : numerator (fraction_where n d dec) ≡ n
  pub den : denominator (fraction_where n d dec) ≡ d

keeps_by : (n d : ℕ) (dec : Dec (IsReduced n d)) → IsReduced n d → Keeps n d dec
keeps_by n d (yes h) so = record { num = refl; den = refl }
keeps_by n d (no differs) so = absurd (differs so)

pub KeepsNumbers-reduced : (n d : ℕ) → IsReduced n d → KeepsNumbers (n, d)
unfolding fraction_of
KeepsNumbers-reduced n d so =
    let k : Keeps n d (reduced_decided n d) = keeps_by n d (reduced_decided n d) so in
    record { num = k.num; den = k.den }

-- lowest terms are so
pub reduced : (n d : ℕ) → IsFraction n d → IsReduced (lowest_terms n d).0 (lowest_terms n d).1
reduced n d h =
    let g = gcd_exists n d in
    record { limits = IsFraction-div n d g.0 h g.1; lowest = IsLowest-div n d g.0 h.den_positive g.1 }

pub KeepsNumbers-lowest : (n d : ℕ) → IsFraction n d → KeepsNumbers (lowest_terms n d)
KeepsNumbers-lowest n d h = KeepsNumbers-reduced (lowest_terms n d).0 (lowest_terms n d).1 (reduced n d h)

-- and have the value
pub same_lowest : (n d : ℕ) → IsFraction n d → IsSameValue (numerator (fraction_of (lowest_terms n d))) (denominator (fraction_of (lowest_terms n d))) n d
same_lowest n d h =
    let g = gcd_exists n d in
    let k : KeepsNumbers (lowest_terms n d) = KeepsNumbers-lowest n d h in
    (λ i. k.num i * d) ∙ (IsSameValue-div n d g.0 g.1 ∙ sym (λ i. n * k.den i))
