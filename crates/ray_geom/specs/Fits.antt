-- Words of private calls alone, which a reader of the public contracts needs not: that each number on the way to a
-- scalar product, or to a difference, fits 64 bits. (Own.)
use Rattle.std.specs.Prelude.{◌^◌, ◌*◌, ◌+ℤ◌, ◌-ℤ◌, ◌*ℤ◌}
use Rattle.std.specs.Int.{w64}
use Rattle.std.specs.Int.RustNames.{FitsSigned}
use Rattle.ray_geom.specs.declared.vec3.Vec3.{Vec3}
use Rattle.ray_geom.specs.Vector.{IsWithin, dot_of}

-- each number on the way to a scalar product fits, and the product is at most 3 * 2^61
pub record DotFits (a b : Vec3) : Type 0 where
  pub x : FitsSigned w64 (a.x *ℤ b.x)
  pub y : FitsSigned w64 (a.y *ℤ b.y)
  pub z : FitsSigned w64 (a.z *ℤ b.z)
  pub xy : FitsSigned w64 ((a.x *ℤ b.x) +ℤ (a.y *ℤ b.y))
  pub all : FitsSigned w64 (dot_of a b)
  pub within : IsWithin (3 * 2 ^ 61) (dot_of a b)

-- the difference of two points fits
pub record MinusFits (a b : Vec3) : Type 0 where
  pub x : FitsSigned w64 (a.x -ℤ b.x)
  pub y : FitsSigned w64 (a.y -ℤ b.y)
  pub z : FitsSigned w64 (a.z -ℤ b.z)
