-- The fraction of the numbers of a fraction is that fraction.
use Rattle.std.proofs.Common.{ℕ, ◌≡◌, refl, sym, ap, subst, Option, Some, None, option_map, IfSome}
use Rattle.ray_geom.specs.declared.frac.Frac.{Frac}
use Rattle.ray_geom.specs.Frac.{numerator, denominator}
use Rattle.ray_geom.specs.Fraction.{IsSameValue}
use Rattle.ray_geom.specs.FracLaws.{same_value}
use Rattle.ray_bottom.specs.declared.meet.Meet.{Meet}
use Rattle.ray_bottom.specs.declared.meet.Meet.TheVariants.{Tri, Aabb}
use Rattle.ray_bottom.specs.Meeting.{MeetValue, meet_value}
use Rattle.ray_geom.specs.Reduced.{IsReduced, fraction_of, fraction_where, reduced_decided, zero_reduced}
use Rattle.ray_candidates.proofs.Reduced.{KeepsNumbers-reduced}
use Rattle.ray_candidates.specs.Laws.{KeepsNumbers, KeepsAllNumbers}

by_decision : (f : Frac) (d : Dec (IsReduced f.num f.den)) → fraction_where f.num f.den d ≡ f
by_decision f (yes h) = same_value (fraction_where f.num f.den (yes h)) f refl
by_decision f (no differs) = absurd (differs (record { limits = f.limits; lowest = f.lowest }))

pub fraction_back : (f : Frac) → fraction_of (numerator f, denominator f) ≡ f
unfolding fraction_of
fraction_back f = by_decision f (reduced_decided f.num f.den)

-- 0 is that of 0/1
pub fraction_zero : (f : Frac) → IsSameValue (numerator f) (denominator f) 0 1 → f ≡ fraction_of (0, 1)
fraction_zero f value =
    let zero = KeepsNumbers-reduced 0 1 zero_reduced in
    same_value f (fraction_of (0, 1)) (subst (λ (p : ℕ × ℕ). IsSameValue f.num f.den p.0 p.1) (λ i. (sym zero.num i, sym zero.den i)) value)

pub KeepsNumbers-back : (f : Frac) → KeepsNumbers (numerator f, denominator f)
KeepsNumbers-back f = record { num = ap numerator (fraction_back f); den = ap denominator (fraction_back f) }

KeepsAllNumbers-meet : (m : Meet) → KeepsAllNumbers (meet_value m)
KeepsAllNumbers-meet (Tri hit) = (KeepsNumbers-back hit.t, KeepsNumbers-back hit.u, KeepsNumbers-back hit.v)
KeepsAllNumbers-meet (Aabb span) = (KeepsNumbers-back span.entry, KeepsNumbers-back span.exit)

pub KeepsAllNumbers-told : (told : Option Meet) (o : Option MeetValue) → option_map meet_value told ≡ o → IfSome o KeepsAllNumbers
KeepsAllNumbers-told told o same = subst (λ p. IfSome p KeepsAllNumbers) same (by-cases told)
  where
    by-cases : (t : Option Meet) → IfSome (option_map meet_value t) KeepsAllNumbers
    by-cases None = tt
    by-cases (Some m) = KeepsAllNumbers-meet m
