-- What is compared with a box on one axis stands for the axis, of which no clause of a public call speaks.
use Rattle.std.specs.Prelude.{ℕ, ℤ, pos, neg_ℤ, ◌≡◌, ◌*◌, ◌+◌, ◌<◌, ◌≤◌, ◌^◌, ◌+ℤ◌, ◌-ℤ◌, ◌*ℤ◌, ◌≤ℤ◌, unsigned_abs, Bool, true, false}
use Rattle.std.specs.Int.{int_min, int_max}
use Rattle.ray_geom.specs.Vector.{IsWithin}
use Rattle.ray_prune.specs.BoxSpan.{IsOnAxis}
use Rattle.ray_window.specs.Windows.{turned, floor_of}
use Rattle.ray_slabs.specs.declared.axis.Axis.{Axis}
use Rattle.ray_slabs.specs.declared.axis.Axis.TheVariants.{Rising, Falling, Flat}
use Rattle.ray_slabs.specs.declared.side.Side.{Side}
use Rattle.ray_slabs.specs.declared.slope.Slope.{Slope}
use Rattle.ray_slabs.specs.Keys.{key_at, plane_of, local_key, IsFrom}
use Rattle.ray_slabs.specs.Axes.{near_of, far_of, IsSafe}

-- the axis of a slope
abbrev pub axis_by : Bool → ℕ → ℤ → Axis
axis_by false factor start = Rising factor start
axis_by true factor start = Falling factor start

-- a slope's start is short enough to be counted from a base
pub record IsShort (slope : Slope) : Type 0 where
  pub start_short : IsWithin (2 ^ 61 + 2) slope.start

-- an axis has this slope, and its keys fit
pub record IsSafeBy (falling : Bool) (factor : ℕ) (start : ℤ) (axis : Axis) : Type 0 where
  pub axis_is : axis ≡ axis_by falling factor start
  pub safe : IsSafe axis

-- an axis is that of a slope, with keys counted from a base, and they fit
abbrev pub IsSloped : Slope → ℕ → Axis → Type 0
IsSloped slope base = IsSafeBy slope.falling slope.factor (slope.start -ℤ pos base)

-- a number as the least and as the greatest stored plane that overlap, moved to where planes lie
abbrev pub stored_from : ℤ → ℤ
stored_from w = (int_max (neg_ℤ (pos (2 ^ 19))) (int_min (pos (2 ^ 19 + 1)) w) +ℤ pos (2 ^ 19)) *ℤ pos 1024

abbrev pub stored_to : ℤ → ℤ
stored_to w = (int_max (neg_ℤ (pos (2 ^ 19 + 1))) (int_min (pos (2 ^ 19)) w) +ℤ pos (2 ^ 19)) *ℤ pos 1024

-- an axis on which the ray is from `from` to `to`, where it is inside the root's box
abbrev pub flat_axis : ℤ → ℤ → Axis
flat_axis from to = Flat (stored_from from) (stored_to to)

-- an axis on which it stands still: at o / det, rounded up and down, so that planes overlap exactly where o / det is
-- between them
abbrev pub still_axis : ℤ → ℤ → Axis
still_axis det o =
    flat_axis (neg_ℤ (floor_of (neg_ℤ (turned det o)) (unsigned_abs det))) (floor_of (turned det o) (unsigned_abs det))

-- what is compared on an axis stands for it: where the ray is between two planes that lie from `from` to `to`, the key
-- is between the bounds; and where they are 3 keys inside, it is between the planes
pub record IsSide (det o m : ℤ) (shift base : ℕ) (from to : ℤ) (side : Side) : Type 0 where
  pub safe : IsSafe side.axis
  pub bounds : (lo hi : ℤ) (n d : ℕ) → IsWithin (2 ^ 19) lo → IsWithin (2 ^ 19) hi → 0 < d → IsOnAxis det lo hi o m n d →
      base ≤ key_at shift n d → lo ≤ℤ to → from ≤ℤ hi →
      IsFrom (near_of side.axis (plane_of lo) (plane_of hi)) (far_of side.axis (plane_of lo) (plane_of hi)) (local_key base (key_at shift n d))
  pub sure : (lo hi : ℤ) (k : ℕ) → side.exact ≡ true → IsWithin (2 ^ 19) lo → IsWithin (2 ^ 19) hi →
      (near_of side.axis (plane_of lo) (plane_of hi) +ℤ pos 3) ≤ℤ pos k →
      (pos k +ℤ pos 3) ≤ℤ far_of side.axis (plane_of lo) (plane_of hi) →
      IsOnAxis det lo hi o m ((base + k) * 2 ^ shift) (2 ^ 38)
