-- The slab test of eight boxes at once, in terms of that of one.
use Rattle.std.specs.Prelude.{ℕ, ℤ, pos, ◌≡◌, ◌<◌, ◌^◌, ◌-◌, ◌+ℤ◌, ◌≤ℤ◌, ◌↔◌, List, length, slice_index_or}
use Rattle.ray_geom.specs.Boxes.{BoxValue, IsBox, box_value}
use Rattle.ray_geom.specs.Vector.{IsWithin, vec3}
use Rattle.ray_lanes.specs.declared.lanes.Lanes8.{Lanes8}
use Rattle.ray_lanes.specs.Overlap.{HasBit, of_box}
use Rattle.ray_slabs.specs.declared.axis.Axis.{Axis}
use Rattle.ray_slabs.specs.declared.eights.Bounds8.{Bounds8}
use Rattle.ray_slabs.specs.declared.slabs.Slabs.{Slabs}
use Rattle.ray_slabs.specs.Keys.{plane_of}
use Rattle.ray_slabs.specs.Axes.{near_of, far_of}
use Rattle.ray_slabs.specs.Bounds.{entry_key, exit_key, planes_of}

-- the box of a lane
abbrev pub box_in : Lanes8 → ℕ → BoxValue
box_in lanes k =
    box_value (vec3 (of_box lanes.lo 0 k) (of_box lanes.lo 1 k) (of_box lanes.lo 2 k))
    (vec3 (of_box lanes.hi 0 k) (of_box lanes.hi 1 k) (of_box lanes.hi 2 k))

-- a limit that is no less than any key
abbrev pub any_key : ℤ
any_key = pos (2 ^ 31 - 1)

-- what the test says of box k of eight: its bit is set exactly where the test of that box keeps it, without a limit, and its key is the
-- box's
pub record IsBoundAt (slabs : Slabs) (box : BoxValue) (k : ℕ) (bounds : Bounds8) : Type 0 where
  pub kept : HasBit bounds.met k ↔ (entry_key slabs (planes_of box) ≤ℤ exit_key slabs any_key (planes_of box))
  pub key : pos (slice_index_or bounds.keys k 0) ≡ entry_key slabs (planes_of box)

-- it says so of each lane that has a box (own)
abbrev pub AreBoundsAt : Slabs → Lanes8 → Bounds8 → Type 0
AreBoundsAt slabs lanes bounds = (k : ℕ) → k < 8 → IsBox (box_in lanes k) → IsBoundAt slabs (box_in lanes k) k bounds

-- ---- words of private calls alone

-- a row has, of each pair of planes, what f gives, with 2^31 more
pub record IsRowOf (f : ℤ → ℤ → ℤ) (lo hi : List ℤ) (row : List ℕ) : Type 0 where
  pub long : length row ≡ 8
  pub each : (k : ℕ) → k < 8 → IsWithin (2 ^ 19) (slice_index_or lo k (pos 0)) → IsWithin (2 ^ 19) (slice_index_or hi k (pos 0)) →
      pos (slice_index_or row k 0) ≡ f (slice_index_or lo k (pos 0)) (slice_index_or hi k (pos 0)) +ℤ pos (2 ^ 31)

abbrev pub IsNearRow : Axis → List ℤ → List ℤ → List ℕ → Type 0
IsNearRow axis = IsRowOf (λ lo hi. near_of axis (plane_of lo) (plane_of hi))

abbrev pub IsFarRow : Axis → List ℤ → List ℤ → List ℕ → Type 0
IsFarRow axis = IsRowOf (λ lo hi. far_of axis (plane_of lo) (plane_of hi))
