-- How large the numbers of one axis are, and a line turned with its determinant, of which no clause of a public
-- call speaks.
use Rattle.std.specs.Prelude.{ℤ, pos, ◌≢◌, ◌+◌, ◌*◌, ◌^◌, ◌+ℤ◌, ◌*ℤ◌}
use Rattle.std.specs.Int.{w128}
use Rattle.std.specs.Int.RustNames.{FitsSigned}
use Rattle.ray_geom.specs.declared.vec3.Vec3.{Vec3}
use Rattle.ray_geom.specs.Vector.{IsWithin}
use Rattle.ray_window.specs.Windows.{turned}

-- those of a ray's line: the determinant, and o and m on an axis
pub record IsLine (det o m : ℤ) : Type 0 where
  pub det_short : IsWithin (6 * 2 ^ 36) det
  pub det_not_zero : det ≢ pos 0
  pub o_short : IsWithin (3 * 2 ^ 25 * (2 ^ 19 + 2 ^ 20)) o
  pub m_short : IsWithin (3 * 2 ^ 45) m

-- those of a ray on each axis
pub record AreLines (det : ℤ) (origin dir : Vec3) : Type 0 where
  pub x : IsLine det origin.x dir.x
  pub y : IsLine det origin.y dir.y
  pub z : IsLine det origin.z dir.z

-- each number on the way to o d + n m fits 128 bits
pub record SumFits (o m n d : ℤ) : Type 0 where
  pub left : FitsSigned w128 (o *ℤ d)
  pub right : FitsSigned w128 (n *ℤ m)
  pub sum : FitsSigned w128 ((o *ℤ d) +ℤ (n *ℤ m))

-- a point, or the one on the other side of 0 where det is negative
abbrev pub turned_point : ℤ → Vec3 → Vec3
turned_point det v = record { x = turned det v.x; y = turned det v.y; z = turned det v.z }
