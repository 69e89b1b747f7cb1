-- The determinant is the sum of the three volumes.
use Rattle.std.proofs.Common.{◌≡◌, arith}
use Rattle.std.specs.Prelude.{ℤ, ◌+ℤ◌, ◌-ℤ◌, ◌*ℤ◌}
use Rattle.std.proofs.lemmas.Int.{ints}
use Rattle.ray_geom.specs.declared.vec3.Vec3.{Vec3}
use Rattle.ray_geom.specs.Vector.{minus_of, minor_of, cross_of, dot_of}
use Rattle.ray_geom.specs.Scene.{RayValue, TriValue}
use Rattle.ray_geom.specs.EdgeVolume.{normal_of}
use Rattle.ray_geom.specs.TriangleHit.{den_of}
use Rattle.ray_geom.proofs.Ring.{spread, *ℤ-+ℤ}

-- one entry of (b - a) x (c - a), in terms of those of b x c, c x a and a x b
corner : (a1 a2 b1 b2 c1 c2 : ℤ) →
    minor_of (b1 -ℤ a1) (b2 -ℤ a2) (c1 -ℤ a1) (c2 -ℤ a2) ≡
    (minor_of b1 b2 c1 c2 +ℤ minor_of c1 c2 a1 a2) +ℤ minor_of a1 a2 b1 b2
corner a1 a2 b1 b2 c1 c2 = simp spread (omega (arith, ints))

shift : (o a b : ℤ) → b -ℤ a ≡ (b -ℤ o) -ℤ (a -ℤ o)
shift o a b = omega (arith, ints)

-- the same, with o taken off each point
entry : (o1 o2 a1 a2 b1 b2 c1 c2 : ℤ) →
    minor_of (b1 -ℤ a1) (b2 -ℤ a2) (c1 -ℤ a1) (c2 -ℤ a2) ≡
    (minor_of (b1 -ℤ o1) (b2 -ℤ o2) (c1 -ℤ o1) (c2 -ℤ o2) +ℤ
    minor_of (c1 -ℤ o1) (c2 -ℤ o2) (a1 -ℤ o1) (a2 -ℤ o2)) +ℤ
    minor_of (a1 -ℤ o1) (a2 -ℤ o2) (b1 -ℤ o1) (b2 -ℤ o2)
entry o1 o2 a1 a2 b1 b2 c1 c2 =
    rw (shift o1 a1 b1, shift o2 a2 c2, shift o2 a2 b2, shift o1 a1 c1)
    (corner (a1 -ℤ o1) (a2 -ℤ o2) (b1 -ℤ o1) (b2 -ℤ o2) (c1 -ℤ o1) (c2 -ℤ o2))

-- a product with a sum of three
three : (d a b c : ℤ) → d *ℤ ((a +ℤ b) +ℤ c) ≡ ((d *ℤ a) +ℤ (d *ℤ b)) +ℤ (d *ℤ c)
three d a b c = simp *ℤ-+ℤ

-- sums of three, axis by axis, are sums of three as wholes
pub regroup : (xa xb xc ya yb yc za zb zc : ℤ) →
    ((((xa +ℤ xb) +ℤ xc) +ℤ ((ya +ℤ yb) +ℤ yc)) +ℤ ((za +ℤ zb) +ℤ zc)) ≡
    (((xa +ℤ ya) +ℤ za) +ℤ ((xb +ℤ yb) +ℤ zb)) +ℤ ((xc +ℤ yc) +ℤ zc)
regroup xa xb xc ya yb yc za zb zc = omega (arith, ints)

-- a scalar product with a sum of three
pub dot_of-sum : (d e a b c : Vec3) →
    e.x ≡ (a.x +ℤ b.x) +ℤ c.x → e.y ≡ (a.y +ℤ b.y) +ℤ c.y → e.z ≡ (a.z +ℤ b.z) +ℤ c.z →
    dot_of d e ≡ (dot_of d a +ℤ dot_of d b) +ℤ dot_of d c
dot_of-sum d e a b c p q r =
    rw (p, q, r, three d.x a.x b.x c.x, three d.y a.y b.y c.y, three d.z a.z b.z c.z)
    (regroup (d.x *ℤ a.x) (d.x *ℤ b.x) (d.x *ℤ c.x) (d.y *ℤ a.y) (d.y *ℤ b.y) (d.y *ℤ c.y)
    (d.z *ℤ a.z) (d.z *ℤ b.z) (d.z *ℤ c.z))

-- for any vector n: n . ((v1 - v0) x (v2 - v0)) is the sum of the products with the edges' normals
pub dot_of-cross_of : (n : Vec3) (ray : RayValue) (tri : TriValue) →
    dot_of n (cross_of (minus_of tri.v1 tri.v0) (minus_of tri.v2 tri.v0)) ≡
    (dot_of n (normal_of ray tri.v1 tri.v2) +ℤ dot_of n (normal_of ray tri.v2 tri.v0)) +ℤ
    dot_of n (normal_of ray tri.v0 tri.v1)
dot_of-cross_of n ray tri =
    dot_of-sum n (cross_of (minus_of tri.v1 tri.v0) (minus_of tri.v2 tri.v0))
    (normal_of ray tri.v1 tri.v2) (normal_of ray tri.v2 tri.v0) (normal_of ray tri.v0 tri.v1)
    (entry ray.origin.y ray.origin.z tri.v0.y tri.v0.z tri.v1.y tri.v1.z tri.v2.y tri.v2.z)
    (entry ray.origin.z ray.origin.x tri.v0.z tri.v0.x tri.v1.z tri.v1.x tri.v2.z tri.v2.x)
    (entry ray.origin.x ray.origin.y tri.v0.x tri.v0.y tri.v1.x tri.v1.y tri.v2.x tri.v2.y)

-- the determinant, as one scalar product
pub den_of-dot_of : (ray : RayValue) (tri : TriValue) →
    dot_of ray.dir (cross_of (minus_of tri.v1 tri.v0) (minus_of tri.v2 tri.v0)) ≡ den_of ray tri
den_of-dot_of ray tri = dot_of-cross_of ray.dir ray tri
