-- When a ray hits a triangle, and what the hit tells.
--
-- By hand, for the ray from o = (1, 1, 5) along d = (0, 0, -1), and the triangle v0 = (0, 0, 0),
-- v1 = (4, 0, 0), v2 = (0, 4, 0). As seen from o:
--   v0 - o = (-1, -1, -5), v1 - o = (3, -1, -5), v2 - o = (-1, 3, -5)
-- The edge from v1 to v2:
--   (v1 - o) x (v2 - o) = ((-1)(-5) - (-5) 3, (-5)(-1) - 3 (-5), 3 * 3 - (-1)(-1)) = (20, 20, 8)
--   first volume: (0, 0, -1) . (20, 20, 8) = -8
-- The edge from v2 to v0:
--   (v2 - o) x (v0 - o) = (3 (-5) - (-5)(-1), (-5)(-1) - (-1)(-5), (-1)(-1) - 3 (-1)) = (-20, 0, 4)
--   second volume: (0, 0, -1) . (-20, 0, 4) = -4
-- The edge from v0 to v1:
--   (v0 - o) x (v1 - o) = ((-1)(-5) - (-5)(-1), (-5) 3 - (-1)(-5), (-1)(-1) - (-1) 3) = (0, -20, 4)
--   third volume: (0, 0, -1) . (0, -20, 4) = -4
-- So den = -8 - 4 - 4 = -16, and each of the three sides is -, which is the sign of den. The distance:
--   (v1 - v0) x (v2 - v0) = (0 * 0 - 0 * 4, 0 * 0 - 4 * 0, 4 * 4 - 0 * 0) = (0, 0, 16)
--   (v0 - o) . (0, 0, 16) = -80
-- So t = -80 / -16 = 5/1, u = -4 / -16 = 1/4, v = -4 / -16 = 1/4, and den is negative. Indeed
-- (1, 1, 5) + 5 (0, 0, -1) = (1, 1, 0) = 1/2 v0 + 1/4 v1 + 1/4 v2.
use Rattle.std.specs.Prelude.{ℕ, ℤ, pos, ◌≡◌, ◌≢◌, ◌*◌, ◌↔◌, ◌+ℤ◌, ◌*ℤ◌, ◌≤ℤ◌, ◌<ℤ◌, unsigned_abs, IsTrue}
use Rattle.std.specs.Int.{int_signum}
use Rattle.ray_geom.specs.declared.frac.Frac.{Frac}
use Rattle.ray_geom.specs.declared.tri_hit.TriHit.{TriHit}
use Rattle.ray_geom.specs.Vector.{minus_of, cross_of, dot_of, sign_of}
use Rattle.ray_geom.specs.Scene.{RayValue, TriValue}
use Rattle.ray_geom.specs.Frac.{numerator, denominator}
use Rattle.ray_geom.specs.EdgeVolume.{volume_of}
use Rattle.ray_geom.specs.EdgeSide.{side_of}

-- the first volume is V(v1, v2), of the edge that v0 isn't on (own)
abbrev pub first_volume : RayValue → TriValue → ℤ
first_volume ray tri = volume_of ray tri.v1 tri.v2

-- the second volume is V(v2, v0), of the edge that v1 isn't on (own)
abbrev pub second_volume : RayValue → TriValue → ℤ
second_volume ray tri = volume_of ray tri.v2 tri.v0

-- the third volume is V(v0, v1), of the edge that v2 isn't on (own)
abbrev pub third_volume : RayValue → TriValue → ℤ
third_volume ray tri = volume_of ray tri.v0 tri.v1

-- the determinant den is the sum of the three volumes (own)
abbrev pub den_of : RayValue → TriValue → ℤ
den_of ray tri = (first_volume ray tri +ℤ second_volume ray tri) +ℤ third_volume ray tri

-- the numerator of the distance: (v0 - o) . ((v1 - v0) x (v2 - v0)) (own)
abbrev pub num_of : RayValue → TriValue → ℤ
num_of ray tri =
    dot_of (minus_of tri.v0 ray.origin) (cross_of (minus_of tri.v1 tri.v0) (minus_of tri.v2 tri.v0))

-- the numerator of num / den once the denominator is |den| (own)
abbrev pub over_size : ℤ → ℤ → ℤ
over_size num den = int_signum den *ℤ num

-- num / den is at least least / 65536, for a den that isn't 0: least |den| is at most 65536 num,
-- with num's sign turned where den is negative (own)
pub record IsFrom (least : ℕ) (num den : ℤ) : Type 0 where
  pub at_least : pos (least * unsigned_abs den) ≤ℤ (pos 65536 *ℤ over_size num den)

-- num / den is at most most / 65536, in the same way (own)
pub record IsTo (most : ℕ) (num den : ℤ) : Type 0 where
  pub at_most : (pos 65536 *ℤ over_size num den) ≤ℤ pos (most * unsigned_abs den)

-- the triangle hit: den isn't 0, the three sides of the edges equal the sign of den, and the
-- distance num / den lies from tmin to tmax, ends included (own, for what the chapter "Ray
-- Traversal" of the Vulkan specification leaves to the implementation)
pub record IsHit (ray : RayValue) (tri : TriValue) : Type 0 where
  pub crosses : den_of ray tri ≢ pos 0
  pub first : side_of ray tri.v1 tri.v2 ≡ sign_of (den_of ray tri)
  pub second : side_of ray tri.v2 tri.v0 ≡ sign_of (den_of ray tri)
  pub third : side_of ray tri.v0 tri.v1 ≡ sign_of (den_of ray tri)
  pub from : IsFrom ray.tmin (num_of ray tri) (den_of ray tri)
  pub to : IsTo ray.tmax (num_of ray tri) (den_of ray tri)

-- the fraction has the value num / den; each `Frac` is in lowest terms (own)
abbrev pub IsRatio : Frac → ℤ → ℤ → Type 0
IsRatio f num den = pos (numerator f) *ℤ den ≡ num *ℤ pos (denominator f)

-- what a hit tells: t = num / den, the second volume / den as the weight u of v1 and the third volume /
-- den as the weight v of v2, all in lowest terms, and whether den is negative (own; u and v are the
-- barycentric coordinates of the Vulkan specification)
pub record Tells (ray : RayValue) (tri : TriValue) (hit : TriHit) : Type 0 where
  pub distance : IsRatio hit.t (num_of ray tri) (den_of ray tri)
  pub second_weight : IsRatio hit.u (second_volume ray tri) (den_of ray tri)
  pub third_weight : IsRatio hit.v (third_volume ray tri) (den_of ray tri)
  pub negative : IsTrue hit.den_negative ↔ (den_of ray tri <ℤ pos 0)
