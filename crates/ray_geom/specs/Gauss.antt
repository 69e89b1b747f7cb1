-- Lemmas that a reader of the public contracts needs not: numbers with no common divisor, and what follows for fractions in lowest terms. These lemmas
-- stand in specs/, since the laws of the order of `Frac` cite them.
use Rattle.std.specs.Prelude.{ℕ, ◌≡◌, ◌*◌, ◌/◌, ◌%◌, ◌<◌, ◌≤◌, refl}
use Rattle.std.specs.Int.{IsGcd, ◌∣◌}
use Rattle.std.proofs.Common.{arith, sym, subst, ap, ◌∙◌, zero, suc}
use Rattle.std.proofs.lemmas.Nat.Gcd.{IsGcd-from_zero, IsGcd-from_mod}
use Rattle.std.proofs.Math.Nat.{dvd-mul_left, dvd-mul_right, dvd_antisymm, dvd_of_mul-dvd-mul_left, mul-div_cancel', mod-lt, le_of_mul-le-mul_right}
use Rattle.ray_geom.specs.Fraction.{IsLowest}

-- two numbers have a greatest common divisor, by Euclid's steps
gcd_below : (fuel a b : ℕ) → b < fuel → (g : ℕ) × IsGcd a b g
gcd_below zero a b h = absurd (omega arith)
gcd_below (suc fuel) a zero h = (a, IsGcd-from_zero a zero refl)
gcd_below (suc fuel) a (suc b) h =
    let small : a % suc b < suc b = mod-lt a {m = suc b} (omega arith) in
    let smaller : a % suc b < fuel = omega arith in
    let rest = gcd_below fuel (suc b) (a % suc b) smaller in
    (rest.0, IsGcd-from_mod a (suc b) rest.0 rest.1)

-- each two numbers have a greatest common divisor
pub gcd_exists : (a b : ℕ) → (g : ℕ) × IsGcd a b g
gcd_exists a b = gcd_below (suc b) a b (omega arith)

-- a number that divides a product, and has no divisor in common with one factor, divides the other
-- (Gauss)
pub dvd_of_dvd-mul : (a b c : ℕ) → ((d : ℕ) → d ∣ a → d ∣ b → d ≡ 1) → 0 < c → a ∣ b * c → a ∣ c
dvd_of_dvd-mul a b c only c_positive h =
    let g = gcd_exists (c * a) (c * b) in
    let c_divides : c ∣ g.0 = g.1.2 c (dvd-mul_right c a) (dvd-mul_right c b) in
    let parts : c * (g.0 / c) ≡ g.0 = mul-div_cancel' c c_divides in
    let in_a : (g.0 / c) ∣ a =
    dvd_of_mul-dvd-mul_left {k = c} (g.0 / c) {n = a} c_positive (subst (λ n. n ∣ c * a) (sym parts) g.1.0) in
    let in_b : (g.0 / c) ∣ b =
    dvd_of_mul-dvd-mul_left {k = c} (g.0 / c) {n = b} c_positive (subst (λ n. n ∣ c * b) (sym parts) g.1.1) in
    let one : g.0 / c ≡ 1 = only (g.0 / c) in_a in_b in
    let whole : g.0 ≡ c = sym parts ∙ (ap (λ n. c * n) one ∙ omega arith) in
    let swapped : b * c ≡ c * b = omega arith in
    subst (λ n. a ∣ n) whole (g.1.2 a (dvd-mul_left a c) (subst (λ n. a ∣ n) swapped h))

-- fractions in lowest terms of one value have one denominator
pub same_den : (n d m e : ℕ) → 0 < d → 0 < e → IsLowest n d → IsLowest m e → n * e ≡ m * d → d ≡ e
same_den n d m e d_positive e_positive p q h =
    let forth : d ∣ e =
    dvd_of_dvd-mul d n e (λ k s t. p.only_one k t s) e_positive (subst (λ x. d ∣ x) (sym h) (dvd-mul_left d m)) in
    let back : e ∣ d =
    dvd_of_dvd-mul e m d (λ k s t. q.only_one k t s) d_positive (subst (λ x. e ∣ x) h (dvd-mul_left e n)) in
    dvd_antisymm forth back

-- a factor that isn't 0 can be taken off both sides
pub cancel : (n m d : ℕ) → 0 < d → n * d ≡ m * d → n ≡ m
cancel n m d d_positive h =
    let below : n ≤ m = le_of_mul-le-mul_right {m = n} {n = m} {k = d} (omega arith) d_positive in
    let above : m ≤ n = le_of_mul-le-mul_right {m = m} {n = n} {k = d} (omega arith) d_positive in
    omega arith

-- and one numerator
pub same_num : (n d m e : ℕ) → 0 < d → 0 < e → IsLowest n d → IsLowest m e → n * e ≡ m * d → n ≡ m
same_num n d m e d_positive e_positive p q h =
    cancel n m e e_positive (h ∙ ap (λ x. m * x) (same_den n d m e d_positive e_positive p q h))
