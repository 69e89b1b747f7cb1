-- A ray in the space of an instance's object, without division: the adjugate takes the place of the
-- inverse, and everything is det times as long.
use Rattle.std.specs.Prelude.{ℕ, ℤ, pos, ◌≡◌, ◌≢◌, ◌+◌, ◌*◌, ◌^◌, ◌≤◌, ◌*ℤ◌}
use Rattle.ray_geom.specs.declared.vec3.Vec3.{Vec3}
use Rattle.ray_geom.specs.Vector.{IsWithin, IsShort, minus_of, dot_of}
use Rattle.ray_geom.specs.Scene.{RayValue}
use Rattle.ray_geom.specs.Transform.{MatrixValue, det_of, adjugate_times}

-- an object ray: at the distance t it is at (origin + t dir) / det in the object's space
pub record ObjectRayValue : Type 0 where
  pub origin : Vec3
  pub dir : Vec3
  pub det : ℤ
  pub tmin : ℕ
  pub tmax : ℕ

-- the object ray with these parts
abbrev pub object_value : Vec3 → Vec3 → ℤ → ℕ → ℕ → ObjectRayValue
object_value origin dir det tmin tmax =
    record { origin = origin; dir = dir; det = det; tmin = tmin; tmax = tmax }

-- the object ray of a ray (o, d) and a transform: o' = adj(M) (o - T), d' = adj(M) d, the determinant
-- of M, and the ray's interval (own; for the instance transforms of Vulkan's "Ray Traversal")
abbrev pub object_of : RayValue → MatrixValue → ObjectRayValue
object_of ray m =
    object_value (adjugate_times m (minus_of ray.origin m.t)) (adjugate_times m ray.dir) (det_of m) ray.tmin ray.tmax

-- the bounds that hold of every object ray (own)
pub record IsObjectRay (object : ObjectRayValue) : Type 0 where
  pub origin_short : IsShort (3 * 2 ^ 25 * (2 ^ 19 + 2 ^ 20)) object.origin
  pub dir_short : IsShort (3 * 2 ^ 45) object.dir
  pub det_short : IsWithin (6 * 2 ^ 36) object.det
  pub det_not_zero : object.det ≢ pos 0
  pub ordered : object.tmin ≤ object.tmax
  pub tmax_limit : object.tmax ≤ 2 ^ 40

-- M v = k w, coordinate by coordinate
pub record MapsTo (m : MatrixValue) (v : Vec3) (k : ℤ) (w : Vec3) : Type 0 where
  pub x : dot_of m.a v ≡ k *ℤ w.x
  pub y : dot_of m.b v ≡ k *ℤ w.y
  pub z : dot_of m.c v ≡ k *ℤ w.z

-- M takes the object ray back to the ray, det times as long: M o' = det (o - T) and M d' = det d. So
-- the point (o' + t d') / det of the object's space has the image o + t d (own)
pub record LeadsBack (ray : RayValue) (m : MatrixValue) (object : ObjectRayValue) : Type 0 where
  pub origin : MapsTo m object.origin object.det (minus_of ray.origin m.t)
  pub dir : MapsTo m object.dir object.det ray.dir
