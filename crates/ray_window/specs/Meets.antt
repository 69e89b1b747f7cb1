-- What a window says of a box: the ray is in no box that it doesn't meet.
use Rattle.std.specs.Prelude.{ℕ, ℤ, ◌≤ℤ◌, Option, Some, None}
use Rattle.ray_geom.specs.declared.ratio.Ratio.{Ratio}
use Rattle.ray_geom.specs.Fraction.{IsAtMost}
use Rattle.ray_geom.specs.Boxes.{BoxValue}
use Rattle.ray_lanes.specs.declared.lanes.Window.{Window}
use Rattle.ray_lanes.specs.Overlap.{on_axis}

-- on one axis a window and what goes from lo to hi have a number in common
pub record MeetsOn (window : Window) (axis : ℕ) (lo hi : ℤ) : Type 0 where
  pub begins : lo ≤ℤ on_axis window.hi axis
  pub ends : on_axis window.lo axis ≤ℤ hi

-- a window meets a box: it does so on each axis (own)
pub record Meets (window : Window) (box : BoxValue) : Type 0 where
  pub x : MeetsOn window 0 box.lo.x box.hi.x
  pub y : MeetsOn window 1 box.lo.y box.hi.y
  pub z : MeetsOn window 2 box.lo.z box.hi.z

-- the distance n / d is at most the limit, where there is one
abbrev pub IsUpTo : Option Ratio → ℕ → ℕ → Type 0
IsUpTo None n d = Unit {0}
IsUpTo (Some limit) n d = IsAtMost n d limit.num limit.den
