-- When a ray's line crosses the interior of an edge that two triangles share.
use Rattle.std.specs.Prelude.{ℕ, zero, suc, pos, ◌≡◌, ◌+◌, ◌*◌, ◌≤◌, ◌⊎◌, ◌+ℤ◌, ◌*ℤ◌, ◌<ℤ◌}
use Rattle.ray_geom.specs.declared.vec3.Vec3.{Vec3}
use Rattle.ray_geom.specs.Vector.{minus_of}
use Rattle.ray_geom.specs.Scene.{RayValue, TriValue}
use Rattle.ray_geom.specs.TriangleHit.{den_of}

-- a vertex of a triangle by its number, counted round: number 3 is number 0 again
abbrev pub vertex_of : TriValue → ℕ → Vec3
vertex_of tri zero = tri.v0
vertex_of tri (suc zero) = tri.v1
vertex_of tri (suc (suc zero)) = tri.v2
vertex_of tri (suc (suc (suc i))) = vertex_of tri i

-- k d is m a + j b, coordinate by coordinate (own)
pub record Mixes (k m j : ℕ) (d a b : Vec3) : Type 0 where
  pub x : pos k *ℤ d.x ≡ (pos m *ℤ a.x) +ℤ (pos j *ℤ b.x)
  pub y : pos k *ℤ d.y ≡ (pos m *ℤ a.y) +ℤ (pos j *ℤ b.y)
  pub z : pos k *ℤ d.z ≡ (pos m *ℤ a.z) +ℤ (pos j *ℤ b.z)

-- the ray's line crosses the interior of the edge of a and b at a distance in the ray's interval: with
-- the weights m + 1 of a and j + 1 of b, which are above 0, k d = (m + 1) (a - o) + (j + 1) (b - o). So
-- at the distance k / (m + 1 + j + 1) the ray is at the point of the edge that these weights give; each
-- crossing of whole points can be written so (own)
pub record Crossing (ray : RayValue) (a b : Vec3) : Type 0 where
  pub k : ℕ
  pub m : ℕ
  pub j : ℕ
  pub mixes : Mixes k (suc m) (suc j) ray.dir (minus_of a ray.origin) (minus_of b ray.origin)
  pub from : ray.tmin * (suc m + suc j) ≤ 65536 * k
  pub to : 65536 * k ≤ ray.tmax * (suc m + suc j)

-- the two triangles' determinants are both above 0 or both below 0: the ray sees both from one side (own)
abbrev pub IsFacedAlike : RayValue → TriValue → TriValue → Type 0
IsFacedAlike ray first second =
    ((pos 0 <ℤ den_of ray first) × (pos 0 <ℤ den_of ray second)) ⊎
    ((den_of ray first <ℤ pos 0) × (den_of ray second <ℤ pos 0))
