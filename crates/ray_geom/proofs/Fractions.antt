-- What becomes of a fraction that is divided by its greatest common divisor, and what the order says.
use Rattle.std.proofs.Common.{ℕ, ◌≡◌, ◌*◌, ◌/◌, ◌<◌, arith, sym, subst, ap, ◌∙◌, zero, suc}
use Rattle.std.specs.Int.{IsGcd, ◌∣◌}
use Rattle.std.proofs.Math.Nat.{dvd_antisymm, dvd_of_mul-dvd-mul_left, mul-dvd-mul_left, mul-div_cancel', div-mul_cancel, one-dvd, pos_of_dvd_of_pos, div-le_self}
use Rattle.ray_geom.specs.declared.frac.Frac.{Frac}
use Rattle.ray_geom.specs.Fraction.{IsFraction, IsLowest, IsSameValue}
use Rattle.ray_geom.specs.Gauss.{cancel}
use Rattle.ray_geom.specs.FracLaws.{same_value}

-- after the division by the greatest common divisor a fraction is in lowest terms
pub IsLowest-div : (n d g : ℕ) → 0 < d → IsGcd n d g → IsLowest (n / g) (d / g)
IsLowest-div n d g d_positive h = record {
  only_one = λ k s t.
      let g_positive : 0 < g = pos_of_dvd_of_pos h.1 d_positive in
      let in_n : g * k ∣ n = subst (λ x. g * k ∣ x) (mul-div_cancel' g h.0) (mul-dvd-mul_left k g s) in
      let in_d : g * k ∣ d = subst (λ x. g * k ∣ x) (mul-div_cancel' g h.1) (mul-dvd-mul_left k g t) in
      let in_g : g * k ∣ g * 1 = subst (λ x. g * k ∣ x) (omega arith) (h.2 (g * k) in_n in_d) in
      dvd_antisymm (dvd_of_mul-dvd-mul_left {k = g} k {n = 1} g_positive in_g) (one-dvd k);
}

pos_of_mul : (a b : ℕ) → 0 < a * b → 0 < a
pos_of_mul zero b h = absurd (omega arith)
pos_of_mul (suc a) b h = omega arith

swap : (a b g : ℕ) → a * (b * g) ≡ a * g * b
swap a b g = omega arith

-- it is then within the limits still
pub IsFraction-div : (n d g : ℕ) → IsFraction n d → IsGcd n d g → IsFraction (n / g) (d / g)
IsFraction-div n d g f h =
    let back : d / g * g ≡ d = div-mul_cancel g h.1 in
    let positive : 0 < d / g = pos_of_mul (d / g) g (subst (λ x. 0 < x) (sym back) f.den_positive) in
    record {
      den_positive = positive;
      den_limit = let l = div-le_self d g in let m = f.den_limit in omega arith;
      num_limit = let l = div-le_self n g in let m = f.num_limit in omega arith;
    }

-- and has the same value
pub IsSameValue-div : (n d g : ℕ) → IsGcd n d g → IsSameValue (n / g) (d / g) n d
IsSameValue-div n d g h =
    let in_n : n / g * g ≡ n = div-mul_cancel g h.0 in
    let in_d : d / g * g ≡ d = div-mul_cancel g h.1 in
    ap (λ x. n / g * x) (sym in_d) ∙ (swap (n / g) (d / g) g ∙ ap (λ x. x * (d / g)) in_n)

-- equality by value is transitive, through a fraction whose denominator isn't 0
pub same_chain : (n d m e k l : ℕ) →
    0 < e → IsSameValue n d m e → IsSameValue k l m e → IsSameValue k l n d
same_chain n d m e k l e_positive p q =
    cancel (k * d) (n * l) e e_positive (omega (arith, ap (λ x. x * l) p, ap (λ x. x * d) q))

-- of two fractions with the value of num / den each is the other
pub same_through : (f g : Frac) (num den : ℕ) →
    0 < den → IsSameValue f.num f.den num den → IsSameValue g.num g.den num den → g ≡ f
same_through f g num den den_positive p q =
    same_value g f (same_chain f.num f.den num den g.num g.den den_positive p q)
