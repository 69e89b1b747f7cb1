-- The fraction of numbers within the limits has their value.
use Rattle.std.proofs.Common.{ℕ, ◌≡◌, ◌*◌, ◌/◌, ◌∙◌, refl, sym}
use Rattle.std.specs.declared.cmp.Ordering.TheVariants.{Equal}
use Rattle.std.specs.Cmp.{nat_cmp_is}
use Rattle.ray_geom.specs.declared.frac.Frac.{Frac}
use Rattle.ray_geom.specs.Fraction.{IsFraction, IsSameValue, fraction_cmp}
use Rattle.ray_geom.specs.Frac.{numerator, denominator}
use Rattle.ray_geom.specs.Gauss.{gcd_exists}
use Rattle.ray_geom.specs.Reduced.{IsReduced, fraction_of, fraction_where, reduced_decided, lowest_of}
use Rattle.ray_geom.proofs.Fractions.{IsFraction-div, IsLowest-div, IsSameValue-div, same_through}

record Keeps (n d : ℕ) (dec : Dec (IsReduced n d)) : Type 0 where
  pub num : numerator (fraction_where n d dec) ≡ n
  pub den : denominator (fraction_where n d dec) ≡ d

keeps_by : (n d : ℕ) (dec : Dec (IsReduced n d)) → IsReduced n d → Keeps n d dec
keeps_by n d (yes h) so = record { num = refl; den = refl }
keeps_by n d (no differs) so = absurd (differs so)

pub lowest_of-value : (n d : ℕ) → IsFraction n d → IsSameValue (numerator (lowest_of n d)) (denominator (lowest_of n d)) n d
unfolding fraction_of
lowest_of-value n d h =
    let g = gcd_exists n d in
    let so : IsReduced (n / g.0) (d / g.0) = record { limits = IsFraction-div n d g.0 h g.1; lowest = IsLowest-div n d g.0 h.den_positive g.1 } in
    let k : Keeps (n / g.0) (d / g.0) (reduced_decided (n / g.0) (d / g.0)) = keeps_by (n / g.0) (d / g.0) (reduced_decided (n / g.0) (d / g.0)) so in
    (λ i. k.num i * d) ∙ (IsSameValue-div n d g.0 g.1 ∙ sym (λ i. n * k.den i))

-- a fraction of that value is it
pub lowest_of-only : (f : Frac) (n d : ℕ) → IsFraction n d → IsSameValue (numerator f) (denominator f) n d → lowest_of n d ≡ f
lowest_of-only f n d h value = same_through f (lowest_of n d) n d h.den_positive value (lowest_of-value n d h)

-- and that of the numbers of a fraction is the fraction
pub lowest_of-frac : (f : Frac) → lowest_of (numerator f) (denominator f) ≡ f
lowest_of-frac f = lowest_of-only f f.num f.den f.limits refl

-- the ratio of those numbers has its value
pub same_ratio : (n d : ℕ) (f : Frac) → IsSameValue (numerator f) (denominator f) n d → fraction_cmp n d f.num f.den ≡ Equal
same_ratio n d f value = sym (nat_cmp_is (n * f.den) (f.num * d) Equal (sym value))
