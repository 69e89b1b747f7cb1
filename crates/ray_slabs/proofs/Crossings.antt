-- From a way and a speed to a key: a key is at least each whole number that is done by then, and at most each that isn't.
use Rattle.std.proofs.Common.{ℕ, zero, suc, ◌*◌, ◌/◌, ◌≤◌, ◌<◌, arith}
use Rattle.std.specs.Prelude.{ℤ, pos, negsuc, ◌*ℤ◌, ◌≤ℤ◌}
use Rattle.std.proofs.lemmas.Int.{ints}
use Rattle.std.proofs.Math.Nat.{mul-le-mul_right, le_of_mul-le-mul_left, div-le_of_le-mul, le-div_iff_mul-le}

pub cancelled : (s x y : ℕ) → 0 < s → s * x ≤ s * y → x ≤ y
cancelled s x y positive h = le_of_mul-le-mul_left {m = x} {n = y} {k = s} h positive

-- w / s is at most n / d, and k is at most w / s in units of b / a
natural_below : (k w n d s a b : ℕ) → 0 < s → 0 < d * b → k * (s * b) ≤ w * a → w * d ≤ n * s → k ≤ n * a / (d * b)
natural_below k w n d s a b moves positive bound way =
    let p = mul-le-mul_right d bound in
    let q = mul-le-mul_right a way in
    let r : k * (d * b) ≤ n * a = cancelled s (k * (d * b)) (n * a) moves (omega arith) in
    (le-div_iff_mul-le {k = d * b} {x = k} {y = n * a} positive).1 r

natural_above : (k w n d s a b : ℕ) → 0 < s → w * a ≤ k * (s * b) → n * s ≤ w * d → n * a / (d * b) ≤ k
natural_above k w n d s a b moves bound way =
    let p = mul-le-mul_right d bound in
    let q = mul-le-mul_right a way in
    let r : n * a ≤ (d * b) * k = cancelled s (n * a) ((d * b) * k) moves (omega arith) in
    div-le_of_le-mul (d * b) r

pub product_positive : (s b : ℕ) → 0 < s → 0 < b → 0 < s * b
product_positive zero b p q = absurd (omega arith)
product_positive (suc s) b p q = omega arith

pub key_below : (k w : ℤ) (n d s a b : ℕ) → 0 < s → 0 < d → 0 < a → 0 < b → (k *ℤ pos (s * b)) ≤ℤ (w *ℤ pos a) →
    (w *ℤ pos d) ≤ℤ pos (n * s) → k ≤ℤ pos (n * a / (d * b))
key_below (negsuc k) w n d s a b moves positive up down bound way = omega (arith, ints)
key_below (pos k) (pos w) n d s a b moves positive up down bound way =
    let h = natural_below k w n d s a b moves (product_positive d b positive down) (omega (arith, ints)) (omega (arith, ints)) in
    omega (arith, ints)
key_below (pos k) (negsuc w) n d s a b moves positive up down bound way = absurd (omega (arith, ints))

pub key_above : (k w : ℤ) (n d s a b : ℕ) → 0 < s → 0 < d → 0 < a → 0 < b → (w *ℤ pos a) ≤ℤ (k *ℤ pos (s * b)) →
    pos (n * s) ≤ℤ (w *ℤ pos d) → pos (n * a / (d * b)) ≤ℤ k
key_above (pos k) (negsuc w) n d s a b moves positive up down bound way = absurd (omega (arith, ints))
key_above (pos k) (pos w) n d s a b moves positive up down bound way =
    let h = natural_above k w n d s a b moves (omega (arith, ints)) (omega (arith, ints)) in
    omega (arith, ints)
key_above (negsuc k) (negsuc w) n d s a b moves positive up down bound way = absurd (omega (arith, ints))
key_above (negsuc k) (pos w) n d s a b moves positive up down bound way =
    let p = product_positive s b moves down in
    absurd (omega (arith, ints))

-- k units are at least w / s: at the distance k b / a the way is done
pub reached : (k : ℕ) (w : ℤ) (s a b : ℕ) → (w *ℤ pos a) ≤ℤ (pos k *ℤ pos (s * b)) → (w *ℤ pos a) ≤ℤ pos (k * b * s)
reached k w s a b h = omega (arith, ints)

pub not_passed : (k : ℕ) (w : ℤ) (s a b : ℕ) → (pos k *ℤ pos (s * b)) ≤ℤ (w *ℤ pos a) → pos (k * b * s) ≤ℤ (w *ℤ pos a)
not_passed k w s a b h = omega (arith, ints)
