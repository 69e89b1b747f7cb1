-- The hit as a value is what a hit tells.
use Rattle.std.proofs.Common.{ℕ, ◌≡◌, ◌≢◌, ◌*◌, ◌/◌, ◌<◌, Bool, true, false, Option, Some, None, option_map, refl, sym, ap, subst, ◌∙◌, zero, suc, arith}
use Rattle.std.specs.Prelude.{ℤ, pos, negsuc, ◌<ℤ◌, unsigned_abs, ◌↔◌, IsTrue, IsSome, IfSome}
use Rattle.std.proofs.lemmas.Int.{ints, unsigned_abs-mul}
use Rattle.std.proofs.Math.Nat.{div-mul_cancel}
use Rattle.ray_geom.specs.declared.frac.Frac.{Frac}
use Rattle.ray_geom.specs.declared.tri_hit.TriHit.{TriHit}
use Rattle.ray_geom.specs.declared.raw_hit.RawHit.{RawHit}
use Rattle.ray_geom.specs.Fraction.{IsLowest, IsSameValue}
use Rattle.ray_geom.specs.Scene.{RayValue, TriValue}
use Rattle.ray_geom.specs.Frac.{numerator, denominator}
use Rattle.ray_geom.proofs.Fractions.{same_chain, IsLowest-div, IsSameValue-div}
use Rattle.ray_geom.specs.Gauss.{gcd_exists, same_num, same_den}
use Rattle.ray_geom.specs.TriangleHit.{num_of, den_of, second_volume, third_volume, IsHit, IsRatio, Tells}
use Rattle.ray_geom.specs.Decided.{where_so, hit_decided}
use Rattle.ray_geom.specs.HitValue.{lowest_terms, quotient, is_negative, told_of, hit_of, hit_value, reduced_hit}

where_so-yes : {P X : Type 0} (d : Dec P) (x : X) → P → where_so d x ≡ Some x
where_so-yes (yes p) x h = refl
where_so-yes (no n) x h = absurd (n h)

where_so-no : {P X : Type 0} (d : Dec P) (x : X) → (P → ⊥) → where_so d x ≡ None
where_so-no (yes p) x h = absurd (h p)
where_so-no (no n) x h = refl

positive_factor : (a b : ℕ) → 0 < a * b → 0 < a
positive_factor zero b h = absurd (omega arith)
positive_factor (suc a) b h = omega arith

abs_positive : (z : ℤ) → z ≢ pos 0 → 0 < unsigned_abs z
abs_positive z h = grind (arith, ints)

-- a fraction of the value n / d has its numbers in lowest terms
pub lowest_terms-same : (f : Frac) (n d : ℕ) → 0 < d → IsSameValue f.num f.den n d → (numerator f, denominator f) ≡ lowest_terms n d
lowest_terms-same f n d d_positive value =
    let g = gcd_exists n d in
    let back : d / g.0 * g.0 ≡ d = div-mul_cancel g.0 g.1.1 in
    let positive : 0 < d / g.0 = positive_factor (d / g.0) g.0 (subst (λ x. 0 < x) (sym back) d_positive) in
    let lowest : IsLowest (n / g.0) (d / g.0) = IsLowest-div n d g.0 d_positive g.1 in
    let same : IsSameValue f.num f.den (n / g.0) (d / g.0) =
    same_chain (n / g.0) (d / g.0) n d f.num f.den d_positive (IsSameValue-div n d g.0 g.1) value in
    let num_path : f.num ≡ n / g.0 = same_num f.num f.den (n / g.0) (d / g.0) f.limits.den_positive positive f.lowest lowest same in
    let den_path : f.den ≡ d / g.0 = same_den f.num f.den (n / g.0) (d / g.0) f.limits.den_positive positive f.lowest lowest same in
    λ i. (num_path i, den_path i)

-- a fraction in lowest terms of the value num / den is the quotient
pub quotient-IsRatio : (f : Frac) (num den : ℤ) → den ≢ pos 0 → IsRatio f num den → (numerator f, denominator f) ≡ quotient num den
quotient-IsRatio f num den crosses ratio =
    lowest_terms-same f (unsigned_abs num) (unsigned_abs den) (abs_positive den crosses)
    (sym (unsigned_abs-mul (pos f.num) den) ∙ (ap unsigned_abs ratio ∙ unsigned_abs-mul num (pos f.den)))

pub is_negative-tells : (b : Bool) (z : ℤ) → IsTrue b ↔ (z <ℤ pos 0) → b ≡ is_negative z
is_negative-tells true (pos n) h = absurd (let below : pos n <ℤ pos 0 = h.0 refl in omega (arith, ints))
is_negative-tells true (negsuc n) h = refl
is_negative-tells false (pos n) h = refl
is_negative-tells false (negsuc n) h = absurd (let never : IsTrue false = h.1 (omega (arith, ints)) in cc)

-- a hit that tells what the definition says is the hit as a value
pub told_of-Tells : (ray : RayValue) (tri : TriValue) (hit : TriHit) → IsHit ray tri → Tells ray tri hit → hit_value hit ≡ told_of ray tri
told_of-Tells ray tri hit is tells =
    let t : (numerator hit.t, denominator hit.t) ≡ quotient (num_of ray tri) (den_of ray tri) = quotient-IsRatio hit.t _ _ is.crosses tells.distance in
    let u : (numerator hit.u, denominator hit.u) ≡ quotient (second_volume ray tri) (den_of ray tri) = quotient-IsRatio hit.u _ _ is.crosses tells.second_weight in
    let v : (numerator hit.v, denominator hit.v) ≡ quotient (third_volume ray tri) (den_of ray tri) = quotient-IsRatio hit.v _ _ is.crosses tells.third_weight in
    let negative : hit.den_negative ≡ is_negative (den_of ray tri) = is_negative-tells hit.den_negative _ tells.negative in
    λ i. record { t = t i; u = u i; v = v i; den_negative = negative i }

-- what is Some exactly where there is a hit, and then tells it, is the hit as a value
pub hit_of-meets : (ray : RayValue) (tri : TriValue) (o : Option TriHit) → IsSome o ↔ IsHit ray tri → IfSome o (Tells ray tri) → option_map hit_value o ≡ hit_of ray tri
hit_of-meets ray tri None some tells =
    sym (where_so-no (hit_decided ray tri) (told_of ray tri) (λ is. let never : IsSome {T = TriHit} None = some.1 is in cc))
hit_of-meets ray tri (Some hit) some tells =
    let is : IsHit ray tri = some.0 refl in
    ap Some (told_of-Tells ray tri hit is tells) ∙ sym (where_so-yes (hit_decided ray tri) (told_of ray tri) is)

-- the same where its fractions aren't in lowest terms yet
pub hit_of-raw : (ray : RayValue) (tri : TriValue) (o : Option RawHit) → IsSome o ↔ IsHit ray tri → IfSome o (λ h. Tells ray tri (reduced_hit h))
    → option_map (λ h. hit_value (reduced_hit h)) o ≡ hit_of ray tri
hit_of-raw ray tri None some tells =
    sym (where_so-no (hit_decided ray tri) (told_of ray tri) (λ is. let never : IsSome {T = RawHit} None = some.1 is in cc))
hit_of-raw ray tri (Some hit) some tells =
    let is : IsHit ray tri = some.0 refl in
    ap Some (told_of-Tells ray tri (reduced_hit hit) is tells) ∙ sym (where_so-yes (hit_decided ray tri) (told_of ray tri) is)
