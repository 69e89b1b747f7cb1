-- Rays and triangles as values, and the limits that they keep.
use Rattle.std.specs.Prelude.{ℕ, pos, ◌≢◌, ◌≤◌, ◌^◌, List, [], ◌∷◌}
use Rattle.ray_geom.specs.declared.vec3.Vec3.{Vec3}
use Rattle.ray_geom.specs.Vector.{IsShort, vec3}

-- a ray: at the distance t it is at origin + t * dir, and it meets things at distances from tmin to
-- tmax, which are whole numbers of 1/65536 (the operands of OpRayQueryInitializeKHR)
pub record RayValue : Type 0 where
  pub origin : Vec3
  pub dir : Vec3
  pub tmin : ℕ
  pub tmax : ℕ

-- the ray with these parts
abbrev pub ray_value : Vec3 → Vec3 → ℕ → ℕ → RayValue
ray_value origin dir tmin tmax = record { origin = origin; dir = dir; tmin = tmin; tmax = tmax }

-- a triangle by its vertices in order (VkAccelerationStructureGeometryTrianglesDataKHR)
pub record TriValue : Type 0 where
  pub v0 : Vec3
  pub v1 : Vec3
  pub v2 : Vec3

-- the triangle with these vertices
abbrev pub tri_value : Vec3 → Vec3 → Vec3 → TriValue
tri_value v0 v1 v2 = record { v0 = v0; v1 = v1; v2 = v2 }

-- the vertices of a triangle, in order
abbrev pub vertices_of : TriValue → List Vec3
vertices_of tri = tri.v0 ∷ tri.v1 ∷ tri.v2 ∷ []

-- the limits of a ray (own; that tmin is at most tmax is a rule of OpRayQueryInitializeKHR, in the
-- Vulkan specification's appendix "Vulkan Environment for SPIR-V")
pub record IsRay (ray : RayValue) : Type 0 where
  pub origin_short : IsShort (2 ^ 19) ray.origin
  pub dir_short : IsShort (2 ^ 20) ray.dir
  pub dir_not_zero : ray.dir ≢ vec3 (pos 0) (pos 0) (pos 0)
  pub ordered : ray.tmin ≤ ray.tmax
  pub tmax_limit : ray.tmax ≤ 2 ^ 40

-- the limits of a triangle (own)
pub record IsTri (tri : TriValue) : Type 0 where
  pub v0_short : IsShort (2 ^ 19) tri.v0
  pub v1_short : IsShort (2 ^ 19) tri.v1
  pub v2_short : IsShort (2 ^ 19) tri.v2
