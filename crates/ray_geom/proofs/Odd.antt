-- Odd numbers, and what halvings leave of a greatest common divisor.
use Rattle.std.specs.Prelude.{ℕ, ◌≡◌, ◌+◌, ◌-◌, ◌*◌, ◌/◌, ◌%◌, ◌^◌, ◌<◌, ◌≤◌, min, refl}
use Rattle.std.specs.Int.{IsGcd, ◌∣◌, bit_at}
use Rattle.std.proofs.Common.{arith, sym, subst, ap, ◌∙◌, zero, suc}
use Rattle.std.proofs.Math.Nat.{one-dvd, dvd-mul_right, dvd_of_mul-dvd-mul_left, mul-dvd-mul_left, mul-div_cancel', mul_assoc, mul_comm, div-one, pow-suc, mod-eq_of_lt}
use Rattle.std.proofs.lemmas.Nat.Gcd.{IsGcd-from_sub, IsGcd-swap, dvd-zero, dvd_trans, le_of_dvd, mod-eq-zero_of_dvd, dvd_of_mod-eq-zero}
use Rattle.std.proofs.lemmas.Nat.Bits.{bit_at-suc, bit_at_lowest}
use Rattle.std.proofs.lemmas.Nat.{shr-shr, pow_pos, pow-add}
use Rattle.ray_geom.specs.Gauss.{gcd_exists, dvd_of_dvd-mul}

-- a number whose lowest bits aren't set is a multiple of a power of two
pub low_bits : (t n : ℕ) → ((i : ℕ) → i < t → bit_at n i ≡ 0) → n ≡ n / 2 ^ t * 2 ^ t
low_bits zero n none = omega (arith, div-one n)
low_bits (suc t) n none =
    let even : n % 2 ≡ 0 = sym (bit_at_lowest n) ∙ none 0 (omega arith) in
    let twice : n ≡ n / 2 * 2 = omega arith in
    let below : n / 2 ≡ n / 2 / 2 ^ t * 2 ^ t = low_bits t (n / 2) (λ i l. sym (bit_at-suc n i) ∙ none (suc i) (omega arith)) in
    let one : 1 + t ≡ suc t = omega arith in
    let both : n / 2 / 2 ^ t ≡ n / 2 ^ suc t = shr-shr n 1 t ∙ ap (λ k. n / 2 ^ k) one in
    twice ∙ (ap (λ x. x * 2) below ∙ (mul_assoc (n / 2 / 2 ^ t) (2 ^ t) 2 ∙ (λ i. both i * sym (pow-suc 2 t) i)))

-- what divides an odd number is odd
divides_odd : (d m : ℕ) → m % 2 ≡ 1 → d ∣ m → d % 2 ≡ 1
divides_odd d m odd divides = by_rest (d % 2) refl
  where
    by_rest : (r : ℕ) → d % 2 ≡ r → d % 2 ≡ 1
    by_rest zero e =
        let even : m % 2 ≡ 0 = mod-eq-zero_of_dvd 2 (dvd_trans 2 (dvd_of_mod-eq-zero 2 e) divides) in
        absurd (omega arith)
    by_rest (suc r) e = omega arith

-- an odd number has no divisor in common with 2
apart_from_two : (d : ℕ) → d % 2 ≡ 1 → (k : ℕ) → k ∣ d → k ∣ 2 → k ≡ 1
apart_from_two d odd k in_d in_two =
    let k_odd = divides_odd k d odd in_d in
    let small : k ≤ 2 = le_of_dvd (omega arith) in_two in
    omega arith

-- what is odd divides a number where it divides its double
of_double : (d x : ℕ) → d % 2 ≡ 1 → d ∣ 2 * x → d ∣ x
of_double d zero odd divides = dvd-zero d
of_double d (suc x) odd divides = dvd_of_dvd-mul d 2 (suc x) (apart_from_two d odd) (omega arith) divides

-- and where it divides a multiple by a power of two
pub of_multiple : (k d x : ℕ) → d % 2 ≡ 1 → d ∣ x * 2 ^ k → d ∣ x
of_multiple zero d x odd divides =
    let same : x * 2 ^ 0 ≡ x = omega arith in
    subst (λ n. d ∣ n) same divides
of_multiple (suc k) d x odd divides =
    let same : x * 2 ^ suc k ≡ 2 * (x * 2 ^ k) = ap (λ n. x * n) (pow-suc 2 k) ∙ (sym (mul_assoc x (2 ^ k) 2) ∙ mul_comm (x * 2 ^ k) 2) in
    of_multiple k d x odd (of_double d (x * 2 ^ k) odd (subst (λ n. d ∣ n) same divides))

-- nothing but 1 divides 1
pub IsGcd-one : (a b : ℕ) → a ≡ 1 → IsGcd a b 1
IsGcd-one a b one = (one-dvd a, one-dvd b, λ d p q. subst (λ n. d ∣ n) one p)

-- a factor that is a power of two changes no greatest common divisor with an odd number
pub IsGcd-times : (k m x g : ℕ) → m % 2 ≡ 1 → IsGcd m x g → IsGcd m (x * 2 ^ k) g
IsGcd-times k m x g odd h = (h.0, dvd_trans g h.1 (dvd-mul_right x (2 ^ k)), λ d p q. h.2 d p (of_multiple k d x (divides_odd d m odd p) q))

pub IsGcd-without : (k m x g : ℕ) → m % 2 ≡ 1 → IsGcd m (x * 2 ^ k) g → IsGcd m x g
IsGcd-without k m x g odd h = (h.0, of_multiple k g x (divides_odd g m odd h.0) h.1, λ d p q. h.2 d p (dvd_trans d q (dvd-mul_right x (2 ^ k))))

-- a factor of both numbers is one of their greatest common divisor
pub IsGcd-scaled : (k a b g : ℕ) → 0 < k → IsGcd a b g → IsGcd (k * a) (k * b) (k * g)
IsGcd-scaled k a b g some h =
    let all = gcd_exists (k * a) (k * b) in
    let factor : k ∣ all.0 = all.1.2 k (dvd-mul_right k a) (dvd-mul_right k b) in
    let parts : k * (all.0 / k) ≡ all.0 = mul-div_cancel' k factor in
    let in_a : (all.0 / k) ∣ a = dvd_of_mul-dvd-mul_left {k = k} (all.0 / k) {n = a} some (subst (λ n. n ∣ k * a) (sym parts) all.1.0) in
    let in_b : (all.0 / k) ∣ b = dvd_of_mul-dvd-mul_left {k = k} (all.0 / k) {n = b} some (subst (λ n. n ∣ k * b) (sym parts) all.1.1) in
    let whole : all.0 ∣ k * g = subst (λ n. n ∣ k * g) parts (mul-dvd-mul_left (all.0 / k) {c = g} k (h.2 (all.0 / k) in_a in_b)) in
    (mul-dvd-mul_left g {c = a} k h.0, mul-dvd-mul_left g {c = b} k h.1, λ d p q. dvd_trans d (all.1.2 d p q) whole)

-- one step by a difference, on the other side
pub IsGcd-from_rest : (a b g : ℕ) → a ≤ b → IsGcd a (b - a) g → IsGcd a b g
IsGcd-from_rest a b g le h = IsGcd-swap b a g (IsGcd-from_sub b a g le (IsGcd-swap a (b - a) g h))

-- a step of the two sides: of an odd number and the odd part of another the greater gives way to the difference
pub IsGcd-kept : (t a b odd : ℕ) → a % 2 ≡ 1 → b ≡ odd * 2 ^ t → a ≤ odd → (g : ℕ) → IsGcd a (odd - a) g → IsGcd a b g
IsGcd-kept t a b odd a_odd parts le g h = subst (λ n. IsGcd a n g) (sym parts) (IsGcd-times t a odd g a_odd (IsGcd-from_rest a odd g le h))

pub IsGcd-kept_back : (t a b odd : ℕ) → a % 2 ≡ 1 → b ≡ odd * 2 ^ t → odd ≤ a → (g : ℕ) → IsGcd odd (a - odd) g → IsGcd a b g
IsGcd-kept_back t a b odd a_odd parts le g h =
    subst (λ n. IsGcd a n g) (sym parts) (IsGcd-times t a odd g a_odd (IsGcd-swap odd a g (IsGcd-from_rest odd a g le h)))

-- the greatest common divisor of two numbers is that of their odd parts, times a power of two
pub IsGcd-whole : (i j a b g : ℕ) → a % 2 ≡ 1 → b % 2 ≡ 1 → IsGcd a (b * 2 ^ j) g → IsGcd (a * 2 ^ i) (b * 2 ^ j) (g * 2 ^ min i j)
IsGcd-whole i j a b g a_odd b_odd h = by_less (i - j) (j - i) refl refl
  where
    plain : IsGcd a b g
    plain = IsGcd-without j a b g a_odd h

    scaled : (s x y : ℕ) → IsGcd x y g → IsGcd (x * 2 ^ s) (y * 2 ^ s) (g * 2 ^ s)
    scaled s x y k = subst (λ (t : ℕ × ℕ × ℕ). IsGcd t.0 t.1 t.2) (λ n. (mul_comm (2 ^ s) x n, mul_comm (2 ^ s) y n, mul_comm (2 ^ s) g n)) (IsGcd-scaled (2 ^ s) x y g (pow_pos s) k)

    raised : (s p t x : ℕ) → p + s ≡ t → x * 2 ^ p * 2 ^ s ≡ x * 2 ^ t
    raised s p t x sum = mul_assoc x (2 ^ p) (2 ^ s) ∙ ap (λ n. x * n) (sym (pow-add 2 p s) ∙ ap (λ n. 2 ^ n) sum)

    by_less : (p q : ℕ) → i - j ≡ p → j - i ≡ q → IsGcd (a * 2 ^ i) (b * 2 ^ j) (g * 2 ^ min i j)
    by_less zero q at rest =
        let least : i ≡ min i j = omega arith in
        let sum : q + i ≡ j = omega arith in
        subst (λ (t : ℕ × ℕ). IsGcd (a * 2 ^ i) t.0 (g * 2 ^ t.1)) (λ n. (raised i q j b sum n, least n)) (scaled i a (b * 2 ^ q) (IsGcd-times q a b g a_odd plain))
    by_less (suc p) q at rest =
        let least : j ≡ min i j = omega arith in
        let sum : suc p + j ≡ i = omega arith in
        subst (λ (t : ℕ × ℕ). IsGcd t.0 (b * 2 ^ j) (g * 2 ^ t.1)) (λ n. (raised j (suc p) i a sum n, least n))
        (scaled j (a * 2 ^ suc p) b (IsGcd-swap b (a * 2 ^ suc p) g (IsGcd-times (suc p) b a g b_odd (IsGcd-swap a b g plain))))

-- the same, of numbers below a bound, as a shift to the left gives it
pub IsGcd-shifted : (most i j x y a s g : ℕ) → 0 < x → x < most → x ≡ a * 2 ^ i → a % 2 ≡ 1 → y ≡ y / 2 ^ j * 2 ^ j → y / 2 ^ j % 2 ≡ 1 → s ≡ min i j →
    IsGcd a y g → IsGcd x y (g * 2 ^ s % most)
IsGcd-shifted most i j x y a s g some below x_parts a_odd y_parts y_odd least h =
    let b = y / 2 ^ j in
    let moved : IsGcd a (b * 2 ^ j) g = subst (λ n. IsGcd a n g) y_parts h in
    let whole : IsGcd x y (g * 2 ^ s) = subst (λ (t : ℕ × ℕ × ℕ). IsGcd t.0 t.1 (g * 2 ^ t.2)) (λ n. (sym x_parts n, sym y_parts n, sym least n)) (IsGcd-whole i j a b g a_odd y_odd moved) in
    let small : g * 2 ^ s ≤ x = le_of_dvd some whole.0 in
    let same : g * 2 ^ s ≡ g * 2 ^ s % most = sym (mod-eq_of_lt (omega arith)) in
    subst (λ n. IsGcd x y n) same whole
