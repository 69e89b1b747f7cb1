-- The volume that the ray's direction spans with an edge as it is seen from the ray's origin.
use Rattle.std.specs.Prelude.{ℤ}
use Rattle.ray_geom.specs.declared.vec3.Vec3.{Vec3}
use Rattle.ray_geom.specs.Vector.{minus_of, cross_of, dot_of}
use Rattle.ray_geom.specs.Scene.{RayValue}

-- the normal of the plane through the ray's origin o, a and b: n = (a - o) x (b - o) (own)
abbrev pub normal_of : RayValue → Vec3 → Vec3 → Vec3
normal_of ray a b = cross_of (minus_of a ray.origin) (minus_of b ray.origin)

-- the edge volume V(a, b) = d . ((a - o) x (b - o)) (own; the scalar triple product)
abbrev pub volume_of : RayValue → Vec3 → Vec3 → ℤ
volume_of ray a b = dot_of ray.dir (normal_of ray a b)
