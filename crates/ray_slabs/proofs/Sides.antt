-- What is compared on an axis stands for it: by a slope, by where the ray stands still, and by a window.
use Rattle.std.proofs.Common.{ℕ, zero, suc, ◌≡◌, ◌+◌, ◌*◌, ◌/◌, ◌%◌, ◌^◌, ◌≤◌, ◌<◌, refl, sym, subst, ap, Bool, true, false, cond, min, ◌&&◌, arith}
use Rattle.std.specs.Prelude.{ℤ, pos, negsuc, neg_ℤ, ◌+ℤ◌, ◌*ℤ◌, ◌≤ℤ◌, unsigned_abs, int_le}
use Rattle.std.specs.Int.{div_ceil}
use Rattle.std.proofs.Math.IntN.{*ℤ_comm}
use Rattle.ray_geom.proofs.Ring.{neg_ℤ-*ℤ, *ℤ-+ℤ}
use Rattle.std.proofs.lemmas.Int.{ints, clamps}
use Rattle.std.proofs.Math.Nat.{mul-le-mul_left}
use Rattle.ray_geom.specs.Vector.{IsWithin}
use Rattle.ray_prune.specs.BoxSpan.{IsOnAxis, IsBetween}
use Rattle.ray_prune.proofs.Scaling.{times_rises, times_back, negsuc-*ℤ}
use Rattle.ray_window.specs.Windows.{turned, floor_of}
use Rattle.ray_slabs.specs.Keys.{plane_of, high_half, local_key, IsFrom}
use Rattle.ray_slabs.specs.Axes.{near_of, far_of, beyond, overlaps}
use Rattle.ray_slabs.specs.Slopes.{IsFloor}
use Rattle.ray_slabs.specs.Sides.{stored_from, stored_to, flat_axis}
use Rattle.ray_slabs.proofs.Products.{lifted_is, lifted_short}

-- a stored plane
stored_is : (p : ℤ) → IsWithin (2 ^ 19) p → pos (plane_of p) ≡ (p +ℤ pos (2 ^ 19)) *ℤ pos 1024
stored_is p within = omega (arith, ints, lifted_is p within)

pub stored_short : (p : ℤ) → IsWithin (2 ^ 19) p → plane_of p ≤ 2 ^ 30
stored_short p within = omega (arith, lifted_short p within)

-- the high half is at most the plane
pub high_short : (q f : ℕ) → f < 2 ^ 32 → high_half q f ≤ q
high_short q f short =
    let h = mul-le-mul_left q short in
    omega arith

-- planes overlap what lies from one number to another exactly where the numbers do
to_stored : (lo w : ℤ) → IsWithin (2 ^ 19) lo → lo ≤ℤ w → pos (plane_of lo) ≤ℤ stored_to w
to_stored lo w within h =
    let above = within.above in
    let below = within.below in
    let is = stored_is lo within in
    omega (arith, ints, clamps)

to_plain : (lo w : ℤ) → IsWithin (2 ^ 19) lo → pos (plane_of lo) ≤ℤ stored_to w → lo ≤ℤ w
to_plain lo w within h =
    let above = within.above in
    let below = within.below in
    let is = stored_is lo within in
    omega (arith, ints, clamps)

from_stored : (hi w : ℤ) → IsWithin (2 ^ 19) hi → w ≤ℤ hi → stored_from w ≤ℤ pos (plane_of hi)
from_stored hi w within h =
    let above = within.above in
    let below = within.below in
    let is = stored_is hi within in
    omega (arith, ints, clamps)

from_plain : (hi w : ℤ) → IsWithin (2 ^ 19) hi → stored_from w ≤ℤ pos (plane_of hi) → w ≤ℤ hi
from_plain hi w within h =
    let above = within.above in
    let below = within.below in
    let is = stored_is hi within in
    omega (arith, ints, clamps)

test_true : (a b : ℤ) → a ≤ℤ b → int_le a b ≡ true
test_true a b h = grind (arith, ints)

true_test : (a b : ℤ) → int_le a b ≡ true → a ≤ℤ b
true_test a b h = grind (arith, ints)

overlap_true : (from to : ℤ) (lo hi : ℕ) → pos lo ≤ℤ to → from ≤ℤ pos hi → overlaps from to lo hi ≡ true
overlap_true from to lo hi a b = λ i. test_true (pos lo) to a i && test_true from (pos hi) b i

both : (p q : Bool) → (p && q) ≡ true → (p ≡ true) × (q ≡ true)
both true q h = (refl, h)
both false q h = absurd (cc)

-- a flat axis
pub flat_bounds : (from to lo hi : ℤ) (base key : ℕ) → IsWithin (2 ^ 19) lo → IsWithin (2 ^ 19) hi → base ≤ key → lo ≤ℤ to → from ≤ℤ hi →
    IsFrom (near_of (flat_axis from to) (plane_of lo) (plane_of hi)) (far_of (flat_axis from to) (plane_of lo) (plane_of hi)) (local_key base key)
flat_bounds from to lo hi base key a b later h k =
    let test = overlap_true (stored_from from) (stored_to to) (plane_of lo) (plane_of hi) (to_stored lo to a h) (from_stored hi from b k) in
    record {
      at_least = subst (λ t. cond t (neg_ℤ (pos (2 ^ 31))) beyond ≤ℤ local_key base key) (sym test) (omega (arith, ints, clamps));
      at_most = omega (arith, ints, clamps);
    }

flat_overlaps : (test : Bool) (k : ℕ) → (cond test (neg_ℤ (pos (2 ^ 31))) beyond +ℤ pos 3) ≤ℤ pos k → (pos k +ℤ pos 3) ≤ℤ beyond → test ≡ true
flat_overlaps true k h j = refl
flat_overlaps false k h j = absurd (omega (arith, ints))

pub record IsOver (from to lo hi : ℤ) : Type 0 where
  pub begins : lo ≤ℤ to
  pub ends : from ≤ℤ hi

pub flat_sure : (from to lo hi : ℤ) (k : ℕ) → IsWithin (2 ^ 19) lo → IsWithin (2 ^ 19) hi →
    (near_of (flat_axis from to) (plane_of lo) (plane_of hi) +ℤ pos 3) ≤ℤ pos k → (pos k +ℤ pos 3) ≤ℤ beyond → IsOver from to lo hi
flat_sure from to lo hi k a b h j =
    let tests = both (int_le (pos (plane_of lo)) (stored_to to)) (int_le (stored_from from) (pos (plane_of hi)))
    (flat_overlaps (overlaps (stored_from from) (stored_to to) (plane_of lo) (plane_of hi)) k h j) in
    record { begins = to_plain lo to a (true_test _ _ tests.0); ends = from_plain hi from b (true_test _ _ tests.1) }

-- where the ray stands still it is between two planes exactly where the number rounded down and up is
ceiling_short : (n q c r : ℕ) → n ≡ q * c + r → r < q → (c + min 1 r) * q < n + q
ceiling_short n q c zero e less = let m : (c + min 1 0) * q ≡ c * q = ap (λ x. x * q) (omega arith) in omega arith
ceiling_short n q c (suc r) e less =
    let m : (c + min 1 (suc r)) * q ≡ (c + 1) * q = ap (λ x. x * q) (omega arith) in omega arith

ceiling_above : (n q : ℕ) → 0 < q → div_ceil n q * q < n + q
ceiling_above n q positive = ceiling_short n q (n / q) (n % q) (omega arith) (omega arith)

pub floor_is : (p : ℤ) (q : ℕ) → 0 < q → IsFloor p q (floor_of p q)
floor_is (pos p) q positive = record { below = omega (arith, ints); above = omega (arith, ints) }
floor_is (negsuc p) q positive =
    let e = neg_ℤ-*ℤ (pos (div_ceil (suc p) q)) (pos q) in
    let h = ceiling_above (suc p) q positive in
    record { below = grind (arith, ints); above = omega (arith, ints) }

-- a number is at least each whole number below it, rounded down too
pub at_least_floor : (p k f : ℤ) (q : ℕ) → IsFloor p q f → (pos q *ℤ k) ≤ℤ p → k ≤ℤ f
at_least_floor p k f q is h = by_test (int_le k f) refl
  where
    by_test : (test : Bool) → int_le k f ≡ test → k ≤ℤ f
    by_test true e = true_test k f e
    by_test false e =
        let later : (f +ℤ pos 1) ≤ℤ k = grind (arith, ints) in
        let step = times_rises q (f +ℤ pos 1) k later in
        let parts = *ℤ-+ℤ (pos q) f (pos 1) in
        let above = is.above in
        absurd (omega (arith, ints, *ℤ_comm f (pos q)))

pub below_floor : (p k f : ℤ) (q : ℕ) → IsFloor p q f → k ≤ℤ f → (pos q *ℤ k) ≤ℤ p
below_floor p k f q is h =
    let step = times_rises q k f h in
    let below = is.below in
    omega (arith, ints, *ℤ_comm f (pos q))

-- where the ray stands still it is between two planes where o / det is
pub record IsInPlace (det lo hi o : ℤ) : Type 0 where
  pub above : (pos (unsigned_abs det) *ℤ lo) ≤ℤ turned det o
  pub below : turned det o ≤ℤ (pos (unsigned_abs det) *ℤ hi)

not_moved : (near far o : ℤ) (n d : ℕ) → 0 < d → IsBetween near far o (pos 0) n d → (near ≤ℤ o) × (o ≤ℤ far)
not_moved near far o n zero positive h = absurd (omega arith)
not_moved near far o n (suc d) positive h =
    let above = h.above in
    let below = h.below in
    let still : pos n *ℤ pos 0 ≡ pos 0 = omega (arith, ints) in (
      times_back d near o (omega (arith, ints, *ℤ_comm near (pos (suc d)), *ℤ_comm o (pos (suc d)))),
      times_back d o far (omega (arith, ints, *ℤ_comm far (pos (suc d)), *ℤ_comm o (pos (suc d)))),
    )

stays : (near far o : ℤ) (n d : ℕ) → near ≤ℤ o → o ≤ℤ far → IsBetween near far o (pos 0) n d
stays near far o n d a b =
    let p = times_rises d near o a in
    let q = times_rises d o far b in
    let still : pos n *ℤ pos 0 ≡ pos 0 = omega (arith, ints) in
    record {
      above = omega (arith, ints, *ℤ_comm near (pos d), *ℤ_comm o (pos d));
      below = omega (arith, ints, *ℤ_comm far (pos d), *ℤ_comm o (pos d));
    }

pub in_place : (det lo hi o : ℤ) (n d : ℕ) → 0 < d → IsOnAxis det lo hi o (pos 0) n d → IsInPlace det lo hi o
in_place (pos k) lo hi o n d positive h =
    let e = not_moved (pos k *ℤ lo) (pos k *ℤ hi) o n d positive h in
    record { above = e.0; below = e.1 }
in_place (negsuc k) lo hi o n d positive h =
    let e = not_moved (negsuc k *ℤ hi) (negsuc k *ℤ lo) o n d positive h in
    let p = e.0 in
    let q = e.1 in
    let x = negsuc-*ℤ k lo in
    let y = negsuc-*ℤ k hi in
    record { above = omega (arith, ints); below = omega (arith, ints) }

pub stays_in_place : (det lo hi o : ℤ) (n d : ℕ) → IsInPlace det lo hi o → IsOnAxis det lo hi o (pos 0) n d
stays_in_place (pos k) lo hi o n d h = stays (pos k *ℤ lo) (pos k *ℤ hi) o n d h.above h.below
stays_in_place (negsuc k) lo hi o n d h =
    let p = h.above in
    let q = h.below in
    let x = negsuc-*ℤ k lo in
    let y = negsuc-*ℤ k hi in
    stays (negsuc k *ℤ hi) (negsuc k *ℤ lo) o n d (omega (arith, ints)) (omega (arith, ints))
