-- Boxes along the axes: their limits, what is in them, and their corners.
use Rattle.std.specs.Prelude.{◌^◌, ◌≤ℤ◌, List, [], ◌∷◌}
use Rattle.ray_geom.specs.declared.vec3.Vec3.{Vec3}
use Rattle.ray_geom.specs.Vector.{IsShort, vec3}

-- a box by its least and its greatest corner (VkAabbPositionsKHR)
pub record BoxValue : Type 0 where
  pub lo : Vec3
  pub hi : Vec3

-- the box with these corners
abbrev pub box_value : Vec3 → Vec3 → BoxValue
box_value lo hi = record { lo = lo; hi = hi }

-- the limits of a box; it may be without thickness (own; that no coordinate of lo is above that of hi is
-- VkAabbPositionsKHR's)
pub record IsBox (box : BoxValue) : Type 0 where
  pub lo_short : IsShort (2 ^ 19) box.lo
  pub hi_short : IsShort (2 ^ 19) box.hi
  pub x_ordered : box.lo.x ≤ℤ box.hi.x
  pub y_ordered : box.lo.y ≤ℤ box.hi.y
  pub z_ordered : box.lo.z ≤ℤ box.hi.z

-- no coordinate of the first point is above that of the second (own)
pub record IsBelow (a b : Vec3) : Type 0 where
  pub x : a.x ≤ℤ b.x
  pub y : a.y ≤ℤ b.y
  pub z : a.z ≤ℤ b.z

-- a point is in a box, faces included (own)
pub record IsIn (p : Vec3) (box : BoxValue) : Type 0 where
  pub above : IsBelow box.lo p
  pub below : IsBelow p box.hi

-- the first box is in the second: its least corner isn't below, and its greatest corner isn't above, that of
-- the second (own)
pub record IsPart (inner outer : BoxValue) : Type 0 where
  pub above : IsBelow outer.lo inner.lo
  pub below : IsBelow inner.hi outer.hi

-- the eight corners of a box: each coordinate is that of lo or that of hi, z changing first (own)
abbrev pub corners_of : BoxValue → List Vec3
corners_of box =
    vec3 box.lo.x box.lo.y box.lo.z ∷ vec3 box.lo.x box.lo.y box.hi.z ∷
    vec3 box.lo.x box.hi.y box.lo.z ∷ vec3 box.lo.x box.hi.y box.hi.z ∷
    vec3 box.hi.x box.lo.y box.lo.z ∷ vec3 box.hi.x box.lo.y box.hi.z ∷
    vec3 box.hi.x box.hi.y box.lo.z ∷ vec3 box.hi.x box.hi.y box.hi.z ∷ []
