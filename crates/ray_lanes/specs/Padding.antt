-- Lanes without a box.
use Rattle.std.specs.Prelude.{◌≡◌, ◌<◌, ◌-◌, ◌^◌, ℕ, ℤ, pos, negsuc, ◌≤ℤ◌}
use Rattle.ray_lanes.specs.declared.lanes.Lanes8.{Lanes8}
use Rattle.ray_lanes.specs.declared.lanes.Window.{Window}
use Rattle.ray_lanes.specs.Overlap.{of_box, on_axis}

-- the lane of a box is empty: on each axis it begins at the greatest number of 32 bits and ends at the least
pub record IsPadded (lanes : Lanes8) (box : ℕ) : Type 0 where
  pub begins : (axis : ℕ) → axis < 3 → of_box lanes.lo axis box ≡ pos (2 ^ 31 - 1)
  pub ends : (axis : ℕ) → axis < 3 → of_box lanes.hi axis box ≡ negsuc (2 ^ 31 - 1)

-- a number lies from -2^30 to 2^30
pub record IsSmall (number : ℤ) : Type 0 where
  pub above : negsuc (2 ^ 30 - 1) ≤ℤ number
  pub below : number ≤ℤ pos (2 ^ 30)

-- the numbers of a window do
pub record IsNear (window : Window) : Type 0 where
  pub lo : (axis : ℕ) → axis < 3 → IsSmall (on_axis window.lo axis)
  pub hi : (axis : ℕ) → axis < 3 → IsSmall (on_axis window.hi axis)
