-- Which face of a triangle a ray sees, before any flip.
use Rattle.std.specs.Prelude.{ℤ, pos, ◌*ℤ◌, ◌<ℤ◌, Bool, not}
use Rattle.std.specs.Bool.{beq}
use Rattle.ray_geom.specs.declared.vec3.Vec3.{Vec3}
use Rattle.ray_geom.specs.Vector.{minus_of, cross_of}
use Rattle.ray_geom.specs.Scene.{RayValue, TriValue}
use Rattle.ray_geom.specs.TriangleHit.{den_of}
use Rattle.ray_geom.specs.Transform.{MatrixValue, det_of, world_tri}
use Rattle.ray_geom.specs.HitValue.{is_negative}

-- the normal of a triangle: (v1 - v0) x (v2 - v0)
abbrev pub normal_of_tri : TriValue → Vec3
normal_of_tri tri = cross_of (minus_of tri.v1 tri.v0) (minus_of tri.v2 tri.v0)

-- the ray sees the front of a triangle of an instance: den * det < 0, with den of the world triangle and det
-- of the instance's matrix. In the object's space the ray's direction has a negative product with the
-- normal (own; Vulkan, "Ray Traversal": the facing is that of the object's space)
pub record IsFront (ray : RayValue) (m : MatrixValue) (tri : TriValue) : Type 0 where
  pub opposite : (den_of ray (world_tri m tri) *ℤ det_of m) <ℤ pos 0

-- the same as a truth value, of a hit: den is negative and det isn't, or det is and den isn't
abbrev pub is_front : Bool → ℤ → Bool
is_front den_negative det = not (beq den_negative (is_negative det))
