-- Eight boxes beside each other, and which of them a window overlaps.
use Rattle.std.specs.Prelude.{◌≡◌, ◌<◌, ◌^◌, ◌/◌, ◌%◌, ℕ, ℤ, pos, ◌≤ℤ◌, List, [], slice_index_or}
use Rattle.ray_lanes.specs.declared.lanes.Lanes8.{Lanes8}
use Rattle.ray_lanes.specs.declared.lanes.Window.{Window}

-- the number of an axis in a list of three
abbrev pub on_axis : List ℤ → ℕ → ℤ
on_axis numbers axis = slice_index_or numbers axis (pos 0)

-- the number of a box on an axis, in three lists of eight
abbrev pub of_box : List (List ℤ) → ℕ → ℕ → ℤ
of_box numbers axis box = slice_index_or (slice_index_or numbers axis []) box (pos 0)

-- on one axis a box and a window have a number in common, where both are written from lo to hi
pub record OverlapsOn (lanes : Lanes8) (window : Window) (box axis : ℕ) : Type 0 where
  pub begins : of_box lanes.lo axis box ≤ℤ on_axis window.hi axis
  pub ends : on_axis window.lo axis ≤ℤ of_box lanes.hi axis box

-- a box and a window overlap: they do so on each axis
abbrev pub Overlaps : Lanes8 → Window → ℕ → Type 0
Overlaps lanes window box = (axis : ℕ) → axis < 3 → OverlapsOn lanes window box axis

-- bit k of a number is set
abbrev pub HasBit : ℕ → ℕ → Type 0
HasBit number k = number / 2 ^ k % 2 ≡ 1
