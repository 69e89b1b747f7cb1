-- The distance that a rule spells has the value of its numbers.
use Rattle.std.proofs.Common.{◌≡◌, ℕ, Bool, true, false, Option, Some, None, refl, sym, ◌∙◌}
use Rattle.std.specs.Prelude.{IfSome}
use Rattle.ray_geom.specs.declared.frac.Frac.{Frac}
use Rattle.ray_geom.specs.Fraction.{IsSameValue}
use Rattle.ray_geom.specs.Frac.{numerator, denominator}
use Rattle.ray_geom.specs.Gauss.{gcd_exists}
use Rattle.ray_geom.proofs.Fractions.{IsSameValue-div, same_chain, same_through}
use Rattle.ray_script.specs.declared.raw_choice.RawChoice.TheVariants.{At}
use Rattle.ray_script.specs.Scripts.{is_choice_in_range}
use Rattle.ray_script.specs.Distances.{HasValue, SpellingIsFree, distance_at, distance_by, within_limits}

-- by the test of the range
value_by : (num den : ℕ) (b : Bool) (e : is_choice_in_range (At num den) ≡ b) → is_choice_in_range (At num den) ≡ true
    → IsSameValue (distance_by num den b e).num (distance_by num den b e).den num den
value_by num den true e fit = IsSameValue-div num den (gcd_exists num den).0 (gcd_exists num den).1
value_by num den false e fit = absurd (cc (e, fit))

pub distance_at-value : HasValue
unfolding distance_at
distance_at-value num den fit = value_by num den (is_choice_in_range (At num den)) refl fit

-- the fraction that a call made is this distance, since there is one of its value
pub distance_at-made : (num den : ℕ) (made : Option Frac) (f : Frac) → made ≡ Some f
    → IfSome made (λ g. (h : Frac) → IsSameValue (numerator h) (denominator h) num den → h ≡ g)
    → is_choice_in_range (At num den) ≡ true → f ≡ distance_at num den
distance_at-made num den None f is only fit = absurd cc
distance_at-made num den (Some g) f is only fit =
    let same : f ≡ g = cc in
    same ∙ sym (only (distance_at num den) (distance_at-value num den fit))

-- two spellings of one value give one distance
pub distance_at-spelling : SpellingIsFree
distance_at-spelling num den other_num other_den fit other_fit same =
    let f : Frac = distance_at num den in
    let g : Frac = distance_at other_num other_den in
    let carried : IsSameValue g.num g.den num den =
    same_chain num den other_num other_den g.num g.den (within_limits other_num other_den other_fit).den_positive same
    (distance_at-value other_num other_den other_fit) in
    sym (same_through f g num den (within_limits num den fit).den_positive (distance_at-value num den fit) carried)
