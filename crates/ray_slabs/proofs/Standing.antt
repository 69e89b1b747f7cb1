-- What is compared on an axis stands for it: by a slope, where the ray stands still, and by where it is.
use Rattle.std.proofs.Common.{ℕ, zero, suc, ◌≡◌, ◌≢◌, ◌+◌, ◌-◌, ◌*◌, ◌^◌, ◌≤◌, ◌<◌, refl, sym, subst, Bool, true, false, arith}
use Rattle.std.specs.Prelude.{ℤ, pos, negsuc, neg_ℤ, ◌+ℤ◌, ◌-ℤ◌, ◌≤ℤ◌, unsigned_abs}
use Rattle.std.proofs.lemmas.Int.{ints, clamps}
use Rattle.ray_geom.specs.Vector.{IsWithin}
use Rattle.ray_geom.proofs.Ring.{*ℤ-neg_ℤ}
use Rattle.ray_prune.specs.BoxSpan.{IsOnAxis}
use Rattle.ray_window.specs.Windows.{turned, floor_of}
use Rattle.ray_slabs.specs.declared.axis.Axis.{Axis}
use Rattle.ray_slabs.specs.declared.slope.Slope.{Slope}
use Rattle.ray_slabs.specs.Keys.{key_at, plane_of, local_key, IsFrom}
use Rattle.ray_slabs.specs.Axes.{crossed_by, first_by, last_by, near_of, far_of, IsSafe}
use Rattle.ray_slabs.specs.Slopes.{IsSlope}
use Rattle.ray_slabs.specs.Sides.{axis_by, IsSafeBy, flat_axis, still_axis, IsSide}
use Rattle.ray_slabs.proofs.Axes.{slope_bounds, slope_sure}
use Rattle.ray_slabs.proofs.Sides.{stored_short, high_short, flat_bounds, flat_sure, floor_is, at_least_floor, below_floor, in_place, stays_in_place}

-- keys counted from a base
near_moved : (falling : Bool) (factor : ℕ) (start : ℤ) (base lo hi : ℕ) →
    near_of (axis_by falling factor (start -ℤ pos base)) lo hi ≡ crossed_by falling factor start (first_by falling lo hi) -ℤ pos base
near_moved false factor start base lo hi = omega (arith, ints)
near_moved true factor start base lo hi = omega (arith, ints)

far_moved : (falling : Bool) (factor : ℕ) (start : ℤ) (base lo hi : ℕ) →
    far_of (axis_by falling factor (start -ℤ pos base)) lo hi ≡ (crossed_by falling factor start (last_by falling lo hi) +ℤ pos 3) -ℤ pos base
far_moved false factor start base lo hi = omega (arith, ints)
far_moved true factor start base lo hi = omega (arith, ints)

-- no near key of a slope is long
near_short : (falling : Bool) (factor : ℕ) (start : ℤ) (lo hi : ℕ) → factor < 2 ^ 32 → lo ≤ 2 ^ 30 → hi ≤ 2 ^ 30 →
    IsSafe (axis_by falling factor start) → near_of (axis_by falling factor start) lo hi ≤ℤ pos (2 ^ 31 - 64)
near_short false factor start lo hi short a b safe =
    let high = safe.high in
    let v = high_short lo factor short in
    omega (arith, ints)
near_short true factor start lo hi short a b safe =
    let high = safe.high in
    omega (arith, ints)

sloped_axis : (det o m : ℤ) (shift base : ℕ) (from to : ℤ) (slope : Slope) → IsSlope det o m shift slope →
    IsSafe (axis_by slope.falling slope.factor (slope.start -ℤ pos base)) →
    IsSide det o m shift base from to record { axis = axis_by slope.falling slope.factor (slope.start -ℤ pos base); exact = true }
sloped_axis det o m shift base from to slope is safe = record { safe = safe; bounds = bounds; sure = sure }
  where
    bounds : (lo hi : ℤ) (n d : ℕ) → IsWithin (2 ^ 19) lo → IsWithin (2 ^ 19) hi → 0 < d → IsOnAxis det lo hi o m n d →
        base ≤ key_at shift n d → lo ≤ℤ to → from ≤ℤ hi →
        IsFrom (near_of (axis_by slope.falling slope.factor (slope.start -ℤ pos base)) (plane_of lo) (plane_of hi))
        (far_of (axis_by slope.falling slope.factor (slope.start -ℤ pos base)) (plane_of lo) (plane_of hi)) (local_key base (key_at shift n d))
    bounds lo hi n d a b positive h later over under =
        let keys = slope_bounds det o m shift slope is lo hi n d a b positive h in
        let near = near_moved slope.falling slope.factor slope.start base (plane_of lo) (plane_of hi) in
        let far = far_moved slope.falling slope.factor slope.start base (plane_of lo) (plane_of hi) in
        let short = near_short slope.falling slope.factor (slope.start -ℤ pos base) (plane_of lo) (plane_of hi) is.factor_short (stored_short lo a) (stored_short hi b) safe in
        let at_least = keys.at_least in
        let at_most = keys.at_most in
        record { at_least = omega (arith, ints, clamps); at_most = omega (arith, ints, clamps) }

    sure : (lo hi : ℤ) (k : ℕ) → true ≡ true → IsWithin (2 ^ 19) lo → IsWithin (2 ^ 19) hi →
        (near_of (axis_by slope.falling slope.factor (slope.start -ℤ pos base)) (plane_of lo) (plane_of hi) +ℤ pos 3) ≤ℤ pos k →
        (pos k +ℤ pos 3) ≤ℤ far_of (axis_by slope.falling slope.factor (slope.start -ℤ pos base)) (plane_of lo) (plane_of hi) →
        IsOnAxis det lo hi o m ((base + k) * 2 ^ shift) (2 ^ 38)
    sure lo hi k exact a b after before =
        let near = near_moved slope.falling slope.factor slope.start base (plane_of lo) (plane_of hi) in
        let far = far_moved slope.falling slope.factor slope.start base (plane_of lo) (plane_of hi) in
        slope_sure det o m shift slope is lo hi (base + k) a b (omega (arith, ints)) (omega (arith, ints))

pub side_sloped : (det o m : ℤ) (shift base : ℕ) (from to : ℤ) (slope : Slope) (axis : Axis) → IsSlope det o m shift slope →
    IsSafeBy slope.falling slope.factor (slope.start -ℤ pos base) axis → IsSide det o m shift base from to record { axis = axis; exact = true }
side_sloped det o m shift base from to slope axis is by =
    subst (λ x. IsSide det o m shift base from to record { axis = x; exact = true }) (sym by.axis_is)
    (sloped_axis det o m shift base from to slope is (subst IsSafe by.axis_is by.safe))

pub side_flat : (det o m : ℤ) (shift base : ℕ) (from to : ℤ) → IsSide det o m shift base from to record { axis = flat_axis from to; exact = false }
side_flat det o m shift base from to = record {
  safe = record { low = omega (arith, ints); high = omega (arith, ints) };
  bounds = λ lo hi n d a b positive h later over under. flat_bounds from to lo hi base (key_at shift n d) a b later over under;
  sure = λ lo hi k exact. absurd (cc);
}

size_positive : (det : ℤ) → det ≢ pos 0 → 0 < unsigned_abs det
size_positive (pos zero) h = absurd (h refl)
size_positive (pos (suc k)) h = omega arith
size_positive (negsuc k) h = omega arith

-- o / det, rounded down, and -o / det
abbrev down_of : ℤ → ℤ → ℤ
down_of det o = floor_of (turned det o) (unsigned_abs det)

abbrev up_of : ℤ → ℤ → ℤ
up_of det o = floor_of (neg_ℤ (turned det o)) (unsigned_abs det)

pub side_still : (det o : ℤ) (shift base : ℕ) (from to : ℤ) → det ≢ pos 0 →
    IsSide det o (pos 0) shift base from to record { axis = still_axis det o; exact = true }
side_still det o shift base from to not_zero = record {
  safe = record { low = omega (arith, ints); high = omega (arith, ints) };
  bounds = λ lo hi n d a b positive h later over under.
      let place = in_place det lo hi o n d positive h in
      let above = place.above in
      let below = place.below in
      let turn = *ℤ-neg_ℤ (pos (unsigned_abs det)) hi in
      let first : lo ≤ℤ down_of det o = at_least_floor (turned det o) lo (down_of det o) (unsigned_abs det) (floor_is (turned det o) (unsigned_abs det) (size_positive det not_zero)) above in
      let last : neg_ℤ hi ≤ℤ up_of det o = at_least_floor (neg_ℤ (turned det o)) (neg_ℤ hi) (up_of det o) (unsigned_abs det) (floor_is (neg_ℤ (turned det o)) (unsigned_abs det) (size_positive det not_zero)) (omega (arith, ints)) in
      flat_bounds (neg_ℤ (up_of det o)) (down_of det o) lo hi base (key_at shift n d) a b later first (omega (arith, ints));
  sure = λ lo hi k exact a b after before.
      let over = flat_sure (neg_ℤ (up_of det o)) (down_of det o) lo hi k a b after before in
      let begins = over.begins in
      let ends = over.ends in
      let turn = *ℤ-neg_ℤ (pos (unsigned_abs det)) hi in
      let first = below_floor (turned det o) lo (down_of det o) (unsigned_abs det) (floor_is (turned det o) (unsigned_abs det) (size_positive det not_zero)) begins in
      let last = below_floor (neg_ℤ (turned det o)) (neg_ℤ hi) (up_of det o) (unsigned_abs det) (floor_is (neg_ℤ (turned det o)) (unsigned_abs det) (size_positive det not_zero)) (omega (arith, ints)) in
      stays_in_place det lo hi o ((base + k) * 2 ^ shift) (2 ^ 38) record { above = first; below = omega (arith, ints) };
}
