-- The window meets each box in which the ray is up to the limit, and its numbers are near.
use Rattle.std.proofs.Common.{ℕ, zero, suc, ◌≡◌, ◌≢◌, ◌*◌, ◌^◌, ◌≤◌, ◌<◌, ◌⊎◌, inl, inr, Bool, true, false, cond, lit<, Option, Some, None, refl, ap, ◌∙◌, arith}
use Rattle.std.specs.Prelude.{ℤ, pos, negsuc, neg_ℤ, ◌+ℤ◌, ◌*ℤ◌, ◌≤ℤ◌, unsigned_abs, nat_le}
use Rattle.std.specs.Int.{int_min, int_max}
use Rattle.std.proofs.lemmas.Int.{ints, clamps}
use Rattle.ray_geom.specs.declared.ratio.Ratio.{Ratio}
use Rattle.ray_geom.specs.Ratio.{parts_of}
use Rattle.ray_geom.specs.Vector.{IsWithin, vec3}
use Rattle.ray_geom.specs.Boxes.{BoxValue, box_value, IsBox}
use Rattle.ray_geom.specs.ObjectRay.{ObjectRayValue, IsObjectRay}
use Rattle.ray_geom.proofs.Ring.{*ℤ_assoc, *ℤ-neg_ℤ}
use Rattle.ray_prune.specs.BoxSpan.{IsOnAxis, IsInside}
use Rattle.ray_prune.proofs.Scaling.{negsuc-*ℤ}
use Rattle.ray_lanes.specs.Padding.{IsSmall, IsNear}
use Rattle.ray_lanes.specs.declared.lanes.Lanes8.{Lanes8}
use Rattle.ray_lanes.specs.declared.lanes.Window.{Window}
use Rattle.ray_lanes.specs.Overlap.{on_axis, of_box, Overlaps}
use Rattle.ray_window.specs.Windows.{spot_of, below_at, above_at, begins_at, ends_at, last_of, window_to, window_of, floor_of, ceiling_of}
use Rattle.ray_window.specs.Meets.{Meets, IsUpTo}
use Rattle.ray_window.proofs.Rounding.{floor_of-below, ceiling_of-above, moved-below, moved-above, IsSmall-moved}
use Rattle.ray_window.proofs.Ends.{IsFromTo, least_end, greatest_end}

size_positive : (det : ℤ) (d : ℕ) → det ≢ pos 0 → 0 < d → 0 < unsigned_abs det * d
size_positive (pos zero) d h positive = absurd (h refl)
size_positive (pos (suc k)) d h positive = omega arith
size_positive (negsuc k) d h positive = omega arith

-- an end at one distance
below_at-below : (det o m hi : ℤ) (n d : ℕ) → det ≢ pos 0 → 0 < d → IsWithin (2 ^ 19) hi →
    spot_of det o m n d ≤ℤ (pos (unsigned_abs det * d) *ℤ hi) → below_at det o m n d ≤ℤ hi
unfolding below_at
below_at-below det o m hi n d not_zero positive within h =
    moved-below (floor_of (spot_of det o m n d) (unsigned_abs det * d)) hi within
    (floor_of-below (spot_of det o m n d) (unsigned_abs det * d) hi (size_positive det d not_zero positive) h)

above_at-above : (det o m lo : ℤ) (n d : ℕ) → det ≢ pos 0 → 0 < d → IsWithin (2 ^ 19) lo →
    (pos (unsigned_abs det * d) *ℤ lo) ≤ℤ spot_of det o m n d → lo ≤ℤ above_at det o m n d
unfolding above_at
above_at-above det o m lo n d not_zero positive within h =
    moved-above (ceiling_of (spot_of det o m n d) (unsigned_abs det * d)) lo within
    (ceiling_of-above (spot_of det o m n d) (unsigned_abs det * d) lo (size_positive det d not_zero positive) h)

-- the sign of det taken off
spot_of-below : (k : ℕ) (o m hi : ℤ) (n d : ℕ) → ((o *ℤ pos d) +ℤ (pos n *ℤ m)) ≤ℤ (pos d *ℤ (pos k *ℤ hi)) →
    spot_of (pos k) o m n d ≤ℤ (pos (k * d) *ℤ hi)
unfolding spot_of
spot_of-below k o m hi n d h =
    let same : pos (d * k) *ℤ hi ≡ pos (k * d) *ℤ hi = ap (λ x. pos x *ℤ hi) (omega arith) in
    omega (arith, ints, *ℤ_assoc (pos d) (pos k) hi)

spot_of-above : (k : ℕ) (o m lo : ℤ) (n d : ℕ) → (pos d *ℤ (pos k *ℤ lo)) ≤ℤ ((o *ℤ pos d) +ℤ (pos n *ℤ m)) →
    (pos (k * d) *ℤ lo) ≤ℤ spot_of (pos k) o m n d
unfolding spot_of
spot_of-above k o m lo n d h =
    let same : pos (d * k) *ℤ lo ≡ pos (k * d) *ℤ lo = ap (λ x. pos x *ℤ lo) (omega arith) in
    omega (arith, ints, *ℤ_assoc (pos d) (pos k) lo)

-- d times a negative number times p
opposite_product : (k d : ℕ) (p : ℤ) → pos d *ℤ (negsuc k *ℤ p) ≡ neg_ℤ (pos (suc k * d) *ℤ p)
opposite_product k d p =
    ap (λ x. pos d *ℤ x) (negsuc-*ℤ k p) ∙ (*ℤ-neg_ℤ (pos d) (pos (suc k) *ℤ p)
    ∙ ap neg_ℤ (*ℤ_assoc (pos d) (pos (suc k)) p ∙ ap (λ x. pos x *ℤ p) (omega arith)))

turned_of-below : (k : ℕ) (o m hi : ℤ) (n d : ℕ) → (pos d *ℤ (negsuc k *ℤ hi)) ≤ℤ ((o *ℤ pos d) +ℤ (pos n *ℤ m)) →
    spot_of (negsuc k) o m n d ≤ℤ (pos (suc k * d) *ℤ hi)
unfolding spot_of
turned_of-below k o m hi n d h = omega (arith, ints, opposite_product k d hi)

turned_of-above : (k : ℕ) (o m lo : ℤ) (n d : ℕ) → ((o *ℤ pos d) +ℤ (pos n *ℤ m)) ≤ℤ (pos d *ℤ (negsuc k *ℤ lo)) →
    (pos (suc k * d) *ℤ lo) ≤ℤ spot_of (negsuc k) o m n d
unfolding spot_of
turned_of-above k o m lo n d h = omega (arith, ints, opposite_product k d lo)

either : {P Q R S : Type 0} → P ⊎ Q → (P → R) → (Q → S) → R ⊎ S
either (inl p) f g = inl (f p)
either (inr q) f g = inr (g q)

-- on an axis, one of the two ends of the window's way is at most the box's end, and one at least its beginning
least_on : (det lo hi o m : ℤ) (a e b f n d : ℕ) → IsFromTo a e b f n d → IsOnAxis det lo hi o m n d →
    (spot_of det o m a e ≤ℤ (pos (unsigned_abs det * e) *ℤ hi)) ⊎ (spot_of det o m b f ≤ℤ (pos (unsigned_abs det * f) *ℤ hi))
least_on (pos k) lo hi o m a e b f n d span h =
    either (least_end o m (pos k *ℤ lo) (pos k *ℤ hi) a e b f n d span h)
    (spot_of-below k o m hi a e) (spot_of-below k o m hi b f)
least_on (negsuc k) lo hi o m a e b f n d span h =
    either (greatest_end o m (negsuc k *ℤ hi) (negsuc k *ℤ lo) a e b f n d span h)
    (turned_of-below k o m hi a e) (turned_of-below k o m hi b f)

greatest_on : (det lo hi o m : ℤ) (a e b f n d : ℕ) → IsFromTo a e b f n d → IsOnAxis det lo hi o m n d →
    ((pos (unsigned_abs det * e) *ℤ lo) ≤ℤ spot_of det o m a e) ⊎ ((pos (unsigned_abs det * f) *ℤ lo) ≤ℤ spot_of det o m b f)
greatest_on (pos k) lo hi o m a e b f n d span h =
    either (greatest_end o m (pos k *ℤ lo) (pos k *ℤ hi) a e b f n d span h)
    (spot_of-above k o m lo a e) (spot_of-above k o m lo b f)
greatest_on (negsuc k) lo hi o m a e b f n d span h =
    either (least_end o m (negsuc k *ℤ hi) (negsuc k *ℤ lo) a e b f n d span h)
    (turned_of-above k o m lo a e) (turned_of-above k o m lo b f)

lesser_of : (x y hi : ℤ) → (x ≤ℤ hi) ⊎ (y ≤ℤ hi) → int_min x y ≤ℤ hi
lesser_of x y hi (inl h) = omega (arith, ints, clamps)
lesser_of x y hi (inr h) = omega (arith, ints, clamps)

greater_of : (x y lo : ℤ) → (lo ≤ℤ x) ⊎ (lo ≤ℤ y) → lo ≤ℤ int_max x y
greater_of x y lo (inl h) = omega (arith, ints, clamps)
greater_of x y lo (inr h) = omega (arith, ints, clamps)

-- on one axis the window and the box have a number in common
pub record IsMetOn (det lo hi o m : ℤ) (tmin : ℕ) (last : Ratio) : Type 0 where
  pub begins : begins_at det o m tmin last.num last.den ≤ℤ hi
  pub ends : lo ≤ℤ ends_at det o m tmin last.num last.den

met_on : (det lo hi o m : ℤ) (tmin : ℕ) (last : Ratio) (n d : ℕ) → det ≢ pos 0 → IsWithin (2 ^ 19) lo → IsWithin (2 ^ 19) hi →
    IsFromTo tmin 65536 last.num last.den n d → IsOnAxis det lo hi o m n d → IsMetOn det lo hi o m tmin last
met_on det lo hi o m tmin last n d not_zero lo_short hi_short span h = record {
  begins = lesser_of (below_at det o m tmin 65536) (below_at det o m last.num last.den) hi
      (either (least_on det lo hi o m tmin 65536 last.num last.den n d span h)
      (below_at-below det o m hi tmin 65536 not_zero (lit< tt) hi_short)
      (below_at-below det o m hi last.num last.den not_zero last.positive hi_short));
  ends = greater_of (above_at det o m tmin 65536) (above_at det o m last.num last.den) lo
      (either (greatest_on det lo hi o m tmin 65536 last.num last.den n d span h)
      (above_at-above det o m lo tmin 65536 not_zero (lit< tt) lo_short)
      (above_at-above det o m lo last.num last.den not_zero last.positive lo_short));
}

-- a distance up to tmax and up to the limit is up to the last of the window
by_test : (test : Bool) (most limit : Ratio) (n d : ℕ) → n * most.den ≤ most.num * d → n * limit.den ≤ limit.num * d →
    n * (cond test most limit).den ≤ (cond test most limit).num * d
by_test true most limit n d p q = p
by_test false most limit n d p q = q

up_to_last : (tmax : ℕ) (limit : Option Ratio) (n d : ℕ) → 65536 * n ≤ tmax * d → IsUpTo limit n d →
    n * (last_of tmax limit).den ≤ (last_of tmax limit).num * d
unfolding last_of
up_to_last tmax None n d h up = omega arith
up_to_last tmax (Some limit) n d h up =
    by_test (nat_le (tmax * limit.den) (limit.num * 65536)) (parts_of tmax) limit n d (omega arith) up

span_of : (object : ObjectRayValue) (box : BoxValue) (limit : Option Ratio) (n d : ℕ) → 0 < d → IsInside object box n d →
    IsUpTo limit n d → IsFromTo object.tmin 65536 (last_of object.tmax limit).num (last_of object.tmax limit).den n d
span_of object box limit n d positive inside up =
    let from = inside.from in
    record { positive = positive; from = omega arith; to = up_to_last object.tmax limit n d inside.to up }

-- the window meets each box in which the ray is at a distance up to the limit
pub window-holds : (object : ObjectRayValue) (box : BoxValue) → IsObjectRay object → IsBox box → (limit : Option Ratio) (n d : ℕ) →
    0 < d → IsInside object box n d → IsUpTo limit n d → Meets (window_of object limit) box
unfolding window_of window_to
window-holds object box ray is_box limit n d positive inside up =
    let last = last_of object.tmax limit in
    let span = span_of object box limit n d positive inside up in
    let x = met_on object.det box.lo.x box.hi.x object.origin.x object.dir.x object.tmin last n d ray.det_not_zero
    is_box.lo_short.x_within is_box.hi_short.x_within span inside.x in
    let y = met_on object.det box.lo.y box.hi.y object.origin.y object.dir.y object.tmin last n d ray.det_not_zero
    is_box.lo_short.y_within is_box.hi_short.y_within span inside.y in
    let z = met_on object.det box.lo.z box.hi.z object.origin.z object.dir.z object.tmin last n d ray.det_not_zero
    is_box.lo_short.z_within is_box.hi_short.z_within span inside.z in
    record {
      x = record { begins = x.ends; ends = x.begins };
      y = record { begins = y.ends; ends = y.begins };
      z = record { begins = z.ends; ends = z.begins };
    }

IsSmall-below_at : (det o m : ℤ) (n d : ℕ) → IsSmall (below_at det o m n d)
unfolding below_at
IsSmall-below_at det o m n d = IsSmall-moved (floor_of (spot_of det o m n d) (unsigned_abs det * d))

IsSmall-above_at : (det o m : ℤ) (n d : ℕ) → IsSmall (above_at det o m n d)
unfolding above_at
IsSmall-above_at det o m n d = IsSmall-moved (ceiling_of (spot_of det o m n d) (unsigned_abs det * d))

IsSmall-min : (x y : ℤ) → IsSmall x → IsSmall y → IsSmall (int_min x y)
IsSmall-min x y p q =
    let a = p.above in
    let b = p.below in
    let c = q.above in
    let e = q.below in
    record { above = omega (arith, ints, clamps); below = omega (arith, ints, clamps) }

IsSmall-max : (x y : ℤ) → IsSmall x → IsSmall y → IsSmall (int_max x y)
IsSmall-max x y p q =
    let a = p.above in
    let b = p.below in
    let c = q.above in
    let e = q.below in
    record { above = omega (arith, ints, clamps); below = omega (arith, ints, clamps) }

begins_small : (det o m : ℤ) (tmin n d : ℕ) → IsSmall (begins_at det o m tmin n d)
begins_small det o m tmin n d =
    IsSmall-min (below_at det o m tmin 65536) (below_at det o m n d) (IsSmall-below_at det o m tmin 65536) (IsSmall-below_at det o m n d)

ends_small : (det o m : ℤ) (tmin n d : ℕ) → IsSmall (ends_at det o m tmin n d)
ends_small det o m tmin n d =
    IsSmall-max (above_at det o m tmin 65536) (above_at det o m n d) (IsSmall-above_at det o m tmin 65536) (IsSmall-above_at det o m n d)

-- no number of a window is far from 0
pub window-near : (object : ObjectRayValue) (limit : Option Ratio) → IsNear (window_of object limit)
unfolding window_of window_to
window-near object limit = record { lo = lo; hi = hi }
  where
    last : Ratio
    last = last_of object.tmax limit

    lo : (axis : ℕ) → axis < 3 → IsSmall (on_axis (window_of object limit).lo axis)
    lo zero h = begins_small object.det object.origin.x object.dir.x object.tmin last.num last.den
    lo (suc zero) h = begins_small object.det object.origin.y object.dir.y object.tmin last.num last.den
    lo (suc (suc zero)) h = begins_small object.det object.origin.z object.dir.z object.tmin last.num last.den
    lo (suc (suc (suc n))) h = absurd (omega arith)

    hi : (axis : ℕ) → axis < 3 → IsSmall (on_axis (window_of object limit).hi axis)
    hi zero h = ends_small object.det object.origin.x object.dir.x object.tmin last.num last.den
    hi (suc zero) h = ends_small object.det object.origin.y object.dir.y object.tmin last.num last.den
    hi (suc (suc zero)) h = ends_small object.det object.origin.z object.dir.z object.tmin last.num last.den
    hi (suc (suc (suc n))) h = absurd (omega arith)

-- a window overlaps the lane of a box that it meets
pub Overlaps-met : (lanes : Lanes8) (window : Window) (k : ℕ) →
    Meets window (box_value
    (vec3 (of_box lanes.lo 0 k) (of_box lanes.lo 1 k) (of_box lanes.lo 2 k))
    (vec3 (of_box lanes.hi 0 k) (of_box lanes.hi 1 k) (of_box lanes.hi 2 k))) →
    Overlaps lanes window k
Overlaps-met lanes window k met zero small = record { begins = met.x.begins; ends = met.x.ends }
Overlaps-met lanes window k met (suc zero) small = record { begins = met.y.begins; ends = met.y.ends }
Overlaps-met lanes window k met (suc (suc zero)) small = record { begins = met.z.begins; ends = met.z.ends }
Overlaps-met lanes window k met (suc (suc (suc n))) small = absurd (omega arith)
