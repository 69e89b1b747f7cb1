-- What is rounded down is at most each whole number above it, what is rounded up at least each below it, and
-- moving changes neither for numbers that are near.
use Rattle.std.proofs.Common.{ℕ, suc, ◌*◌, ◌/◌, ◌^◌, ◌<◌, ◌≤◌, arith}
use Rattle.std.specs.Prelude.{ℤ, pos, negsuc, ◌*ℤ◌, ◌≤ℤ◌}
use Rattle.std.proofs.lemmas.Int.{ints, clamps}
use Rattle.std.proofs.Math.Nat.{div-le_of_le-mul, le-div_iff_mul-le}
use Rattle.ray_geom.specs.Vector.{IsWithin}
use Rattle.ray_lanes.specs.Padding.{IsSmall}
use Rattle.ray_window.specs.Windows.{floor_of, ceiling_of, moved}

-- quotients of natural numbers
quotient_below : (p q k : ℕ) → p ≤ q * k → p / q ≤ k
quotient_below p q k h = div-le_of_le-mul q h

quotient_above : (p q k : ℕ) → 0 < q → q * k ≤ p → k ≤ p / q
quotient_above p q k positive h = (le-div_iff_mul-le {k = q} {x = k} {y = p} positive).1 (omega arith)

-- a product with a negative number is below 0
product_below : (p q k : ℕ) → 0 < q → pos p ≤ℤ (pos q *ℤ negsuc k) → ⊥
product_below p q k positive h = omega (arith, ints)

product_above : (p q k : ℕ) → (pos q *ℤ pos k) ≤ℤ negsuc p → ⊥
product_above p q k h = omega (arith, ints)

natural_below : (p q k : ℕ) → pos p ≤ℤ (pos q *ℤ pos k) → p ≤ q * k
natural_below p q k h = omega (arith, ints)

natural_above : (p q k : ℕ) → (pos q *ℤ pos k) ≤ℤ pos p → q * k ≤ p
natural_above p q k h = omega (arith, ints)

size_above : (p q k : ℕ) → negsuc p ≤ℤ (pos q *ℤ negsuc k) → q * suc k ≤ suc p
size_above p q k h = omega (arith, ints)

size_below : (p q k : ℕ) → (pos q *ℤ negsuc k) ≤ℤ negsuc p → suc p ≤ q * suc k
size_below p q k h = omega (arith, ints)

pub floor_of-below : (p : ℤ) (q : ℕ) (k : ℤ) → 0 < q → p ≤ℤ (pos q *ℤ k) → floor_of p q ≤ℤ k
floor_of-below (pos p) q (pos k) positive h =
    let small = quotient_below p q k (natural_below p q k h) in omega (arith, ints)
floor_of-below (pos p) q (negsuc k) positive h = absurd (product_below p q k positive h)
floor_of-below (negsuc p) q (pos k) positive h = omega (arith, ints)
floor_of-below (negsuc p) q (negsuc k) positive h =
    let large = quotient_above (suc p) q (suc k) positive (size_above p q k h) in omega (arith, ints)

pub ceiling_of-above : (p : ℤ) (q : ℕ) (k : ℤ) → 0 < q → (pos q *ℤ k) ≤ℤ p → k ≤ℤ ceiling_of p q
ceiling_of-above (pos p) q (pos k) positive h =
    let large = quotient_above p q k positive (natural_above p q k h) in omega (arith, ints)
ceiling_of-above (pos p) q (negsuc k) positive h = omega (arith, ints)
ceiling_of-above (negsuc p) q (pos k) positive h = absurd (product_above p q k h)
ceiling_of-above (negsuc p) q (negsuc k) positive h =
    let small = quotient_below (suc p) q (suc k) (size_below p q k h) in omega (arith, ints)

pub moved-below : (z k : ℤ) → IsWithin (2 ^ 19) k → z ≤ℤ k → moved z ≤ℤ k
moved-below z k within h =
    let above = within.above in
    let below = within.below in
    omega (arith, ints, clamps)

pub moved-above : (z k : ℤ) → IsWithin (2 ^ 19) k → k ≤ℤ z → k ≤ℤ moved z
moved-above z k within h =
    let above = within.above in
    let below = within.below in
    omega (arith, ints, clamps)

pub IsSmall-moved : (z : ℤ) → IsSmall (moved z)
IsSmall-moved z = record { above = omega (arith, ints, clamps); below = omega (arith, ints, clamps) }
