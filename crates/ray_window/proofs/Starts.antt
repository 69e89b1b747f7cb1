-- Where a ray is at the distance 0, or on an axis along which it doesn't move, is where it begins: numerator and divisor are
-- both as many times as large as need be as the distance has parts.
use Rattle.std.proofs.Common.{ℕ, zero, suc, ◌≡◌, ◌+◌, ◌*◌, ◌/◌, ◌%◌, ◌<◌, min, refl, ap, ap₂, ◌∙◌, arith}
use Rattle.std.specs.Prelude.{ℤ, pos, negsuc, neg_ℤ, ◌*ℤ◌, unsigned_abs}
use Rattle.std.specs.Int.{div_ceil}
use Rattle.std.proofs.lemmas.Int.{ints}
use Rattle.std.proofs.Math.Nat.{mul-div-mul_right, mod-eq-sub-div-mul}
use Rattle.ray_geom.proofs.Ring.{neg_ℤ-*ℤ}
use Rattle.ray_window.specs.Windows.{floor_of, ceiling_of, moved, turned, spot_of, below_at, above_at}

same_quotient : (n q e : ℕ) → 0 < e → n * e / (q * e) ≡ n / q
same_quotient n q e positive = mul-div-mul_right {m = e} n q positive

times_parted : (k q r e : ℕ) → (k * q + r) * e ≡ k * (q * e) + r * e
times_parted k q r e = omega arith

least_times : (r e : ℕ) → 0 < e → min 1 (r * e) ≡ min 1 r
least_times zero e positive = omega arith
least_times (suc r) zero positive = absurd (omega arith)
least_times (suc r) (suc e) positive = omega arith

same_rest : (n q e : ℕ) → 0 < e → min 1 (n * e % (q * e)) ≡ min 1 (n % q)
same_rest n q e positive =
    let k = n / q in
    let r = n % q in
    let large = mod-eq-sub-div-mul (n * e) (q * e) in
    let small = mod-eq-sub-div-mul n q in
    let whole : n ≡ k * q + r = omega (arith, small) in
    let times = ap (λ x. x * (q * e)) (same_quotient n q e positive) in
    let parts = ap (λ x. x * e) whole ∙ times_parted k q r e in
    let rest : n * e % (q * e) ≡ r * e = omega (arith, large, times, parts) in
    ap (min 1) rest ∙ least_times r e positive

same_ceil : (n q e : ℕ) → 0 < e → div_ceil (n * e) (q * e) ≡ div_ceil n q
same_ceil n q e positive = ap₂ (λ a b. a + b) (same_quotient n q e positive) (same_rest n q e positive)

floor_of-neg : (k q : ℕ) → 0 < k → floor_of (neg_ℤ (pos k)) q ≡ neg_ℤ (pos (div_ceil k q))
floor_of-neg zero q positive = absurd (omega arith)
floor_of-neg (suc k) q positive = refl

ceiling_of-neg : (k q : ℕ) → 0 < k → ceiling_of (neg_ℤ (pos k)) q ≡ neg_ℤ (pos (k / q))
ceiling_of-neg zero q positive = absurd (omega arith)
ceiling_of-neg (suc k) q positive = refl

some_times : (n e : ℕ) → 0 < e → 0 < suc n * e
some_times n zero positive = absurd (omega arith)
some_times n (suc e) positive = omega arith

floor_of-times : (z : ℤ) (q e : ℕ) → 0 < e → floor_of (z *ℤ pos e) (q * e) ≡ floor_of z q
floor_of-times (pos n) q e positive = ap pos (same_quotient n q e positive)
floor_of-times (negsuc n) q e positive =
    floor_of-neg (suc n * e) (q * e) (some_times n e positive) ∙ ap (λ k. neg_ℤ (pos k)) (same_ceil (suc n) q e positive)

ceiling_of-times : (z : ℤ) (q e : ℕ) → 0 < e → ceiling_of (z *ℤ pos e) (q * e) ≡ ceiling_of z q
ceiling_of-times (pos n) q e positive = ap pos (same_ceil n q e positive)
ceiling_of-times (negsuc n) q e positive =
    ceiling_of-neg (suc n * e) (q * e) (some_times n e positive) ∙ ap (λ k. neg_ℤ (pos k)) (same_quotient (suc n) q e positive)

spot_of-still : (det o m : ℤ) (n e : ℕ) → pos n *ℤ m ≡ pos 0 → spot_of det o m n e ≡ turned det o *ℤ pos e
unfolding spot_of
spot_of-still (pos det) o m n e none = omega (arith, ints, none)
spot_of-still (negsuc det) o m n e none = omega (arith, ints, none, neg_ℤ-*ℤ o (pos e))

pub below_at_still : (det o m : ℤ) (n e : ℕ) → 0 < e → pos n *ℤ m ≡ pos 0
    → below_at det o m n e ≡ moved (floor_of (turned det o) (unsigned_abs det))
unfolding below_at
below_at_still det o m n e positive none =
    ap (λ p. moved (floor_of p (unsigned_abs det * e))) (spot_of-still det o m n e none)
    ∙ ap moved (floor_of-times (turned det o) (unsigned_abs det) e positive)

pub above_at_still : (det o m : ℤ) (n e : ℕ) → 0 < e → pos n *ℤ m ≡ pos 0
    → above_at det o m n e ≡ moved (ceiling_of (turned det o) (unsigned_abs det))
unfolding above_at
above_at_still det o m n e positive none =
    ap (λ p. moved (ceiling_of p (unsigned_abs det * e))) (spot_of-still det o m n e none)
    ∙ ap moved (ceiling_of-times (turned det o) (unsigned_abs det) e positive)

-- at the distance 0, and on an axis along which the ray doesn't move
pub at_start : (m : ℤ) → pos 0 *ℤ m ≡ pos 0
at_start m = omega (arith, ints)

pub stands : (n : ℕ) (m : ℤ) → m ≡ pos 0 → pos n *ℤ m ≡ pos 0
stands n m none = ap (λ z. pos n *ℤ z) none ∙ omega (arith, ints)
