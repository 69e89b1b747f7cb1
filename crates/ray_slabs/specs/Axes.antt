-- The slab test on one axis: from where to where, in keys, a ray is between two stored planes.
use Rattle.std.specs.Prelude.{ℕ, ℤ, pos, ◌^◌, ◌-◌, ◌+ℤ◌, ◌-ℤ◌, ◌≤ℤ◌, Bool, true, false, cond, ◌&&◌, int_le, neg_ℤ}
use Rattle.ray_slabs.specs.declared.axis.Axis.{Axis}
use Rattle.ray_slabs.specs.declared.axis.Axis.TheVariants.{Rising, Falling, Flat}
use Rattle.ray_slabs.specs.Keys.{high_half}

-- a whole number that is at most the key at which a plane is crossed, and at most 3 less
abbrev pub crossed_by : Bool → ℕ → ℤ → ℕ → ℤ
crossed_by false factor start plane = start +ℤ pos (high_half plane factor)
crossed_by true factor start plane = start -ℤ pos (high_half plane factor)

-- the plane that is crossed first, and the one that is crossed last
abbrev pub first_by : Bool → ℕ → ℕ → ℕ
first_by false lo hi = lo
first_by true lo hi = hi

abbrev pub last_by : Bool → ℕ → ℕ → ℕ
last_by false lo hi = hi
last_by true lo hi = lo

-- a key that is beyond all that are compared with it
abbrev pub beyond : ℤ
beyond = pos (2 ^ 31 - 32)

-- whether two planes overlap what lies from `from` to `to`
abbrev pub overlaps : ℤ → ℤ → ℕ → ℕ → Bool
overlaps from to lo hi = int_le (pos lo) to && int_le from (pos hi)

-- a key that is at most that at which the ray comes between two planes
abbrev pub near_of : Axis → ℕ → ℕ → ℤ
near_of (Rising factor start) lo hi = crossed_by false factor start lo
near_of (Falling factor start) lo hi = crossed_by true factor start hi
near_of (Flat from to) lo hi = cond (overlaps from to lo hi) (neg_ℤ (pos (2 ^ 31))) beyond

-- a key that is at least that at which it goes out of them
abbrev pub far_of : Axis → ℕ → ℕ → ℤ
far_of (Rising factor start) lo hi = crossed_by false factor start hi +ℤ pos 3
far_of (Falling factor start) lo hi = crossed_by true factor start lo +ℤ pos 3
far_of (Flat from to) lo hi = beyond

-- the least and the greatest number that the keys of an axis can come to, 3 apart
abbrev pub least_of : Axis → ℤ
least_of (Rising factor start) = start
least_of (Falling factor start) = start -ℤ pos (2 ^ 30)
least_of (Flat from to) = pos 0

abbrev pub greatest_of : Axis → ℤ
greatest_of (Rising factor start) = start +ℤ pos (2 ^ 30)
greatest_of (Falling factor start) = start
greatest_of (Flat from to) = pos 0

-- the keys of an axis fit 32 bits for each plane
pub record IsSafe (axis : Axis) : Type 0 where
  pub low : neg_ℤ (pos (2 ^ 31)) ≤ℤ least_of axis
  pub high : greatest_of axis ≤ℤ pos (2 ^ 31 - 64)

-- those of three axes do, and the last key is short
pub record AreSafe (x y z : Axis) (last : ℤ) : Type 0 where
  pub x_safe : IsSafe x
  pub y_safe : IsSafe y
  pub z_safe : IsSafe z
  pub not_before : pos 0 ≤ℤ last
  pub last_short : last ≤ℤ pos (2 ^ 31 - 64)
