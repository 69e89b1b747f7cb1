-- Order and products of whole numbers: a natural factor keeps the order, a negative one turns it, and a
-- positive one can be taken off.
use Rattle.std.proofs.Common.{ℕ, suc, ◌≡◌, ◌+◌, ◌*◌, ◌≤◌, arith}
use Rattle.std.specs.Prelude.{ℤ, pos, negsuc, neg_ℤ, ◌*ℤ◌, ◌≤ℤ◌}
use Rattle.std.proofs.lemmas.Int.{ints}
use Rattle.std.proofs.Math.Nat.{mul-le-mul_left, le_of_mul-le-mul_left}
use borrow.Author.Differences.{up, down, le_out}
use Rattle.ray_geom.proofs.Ring.{neg_ℤ-*ℤ}
use Rattle.ray_prune.specs.BoxSpan.{near_end, far_end}

pub times_rises : (k : ℕ) (a b : ℤ) → a ≤ℤ b → (pos k *ℤ a) ≤ℤ (pos k *ℤ b)
times_rises k a b h = omega (arith, ints, mul-le-mul_left k (le_out a b h))

pub negsuc-*ℤ : (k : ℕ) (a : ℤ) → negsuc k *ℤ a ≡ neg_ℤ (pos (suc k) *ℤ a)
negsuc-*ℤ k a = neg_ℤ-*ℤ (pos (suc k)) a

pub times_falls : (k : ℕ) (a b : ℤ) → a ≤ℤ b → (negsuc k *ℤ b) ≤ℤ (negsuc k *ℤ a)
times_falls k a b h =
    let up = times_rises (suc k) a b h in
    let left = negsuc-*ℤ k a in
    let right = negsuc-*ℤ k b in
    omega (arith, ints)

pub times_back : (k : ℕ) (a b : ℤ) → (pos (suc k) *ℤ a) ≤ℤ (pos (suc k) *ℤ b) → a ≤ℤ b
times_back k a b h =
    let scaled : suc k * (up a + down b) ≤ suc k * (up b + down a) = omega (arith, ints) in
    let plain : up a + down b ≤ up b + down a = le_of_mul-le-mul_left {m = up a + down b} {n = up b + down a} {k = suc k} scaled (omega arith) in
    omega (arith, ints)

-- det times a number between lo and hi is between the ends of the box
pub near_below : (det lo hi p : ℤ) → lo ≤ℤ p → p ≤ℤ hi → near_end det lo hi ≤ℤ (det *ℤ p)
near_below (pos k) lo hi p above below = times_rises k lo p above
near_below (negsuc k) lo hi p above below = times_falls k p hi below

pub far_above : (det lo hi p : ℤ) → lo ≤ℤ p → p ≤ℤ hi → (det *ℤ p) ≤ℤ far_end det lo hi
far_above (pos k) lo hi p above below = times_rises k p hi below
far_above (negsuc k) lo hi p above below = times_falls k lo p above
