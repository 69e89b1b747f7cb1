-- Words of private calls alone, which a reader of the public contracts needs not: what the calls of the triangle test
-- give, the numbers that the definitions name.
use Rattle.std.specs.Prelude.{pos, ◌≡◌, ◌≢◌, ◌*◌, ◌^◌}
use Rattle.std.specs.Ordering.{ordering_then}
use Rattle.std.specs.declared.cmp.Ordering.{Ordering}
use Rattle.ray_geom.specs.declared.vec3.Vec3.{Vec3}
use Rattle.ray_geom.specs.declared.edge.Edge.{Edge}
use Rattle.ray_geom.specs.declared.measured.Measured.{Measured}
use Rattle.ray_geom.specs.Vector.{IsWithin, sign_of, point_cmp}
use Rattle.ray_geom.specs.Scene.{RayValue, TriValue}
use Rattle.ray_geom.specs.EdgeVolume.{volume_of}
use Rattle.ray_geom.specs.EdgeSide.{side_of}
use Rattle.ray_geom.specs.TriangleHit.{den_of, num_of}

-- the edge side where the volume is zero: the sign of the first that isn't zero of n.x, n.y and
-- n.z, else the order of a and b
abbrev pub side_at_tie_of : Vec3 → Vec3 → Vec3 → Ordering
side_at_tie_of n a b =
    ordering_then (sign_of n.x)
    (ordering_then (sign_of n.y)
    (ordering_then (sign_of n.z) (point_cmp b a)))

-- the edge from a to b, measured
pub record IsEdge (ray : RayValue) (a b : Vec3) (edge : Edge) : Type 0 where
  pub volume : edge.volume ≡ volume_of ray a b
  pub short : IsWithin (3 * 2 ^ 61) edge.volume
  pub side : edge.side ≡ side_of ray a b

-- the triangle, measured
pub record IsMeasured (ray : RayValue) (tri : TriValue) (m : Measured) : Type 0 where
  pub first : IsEdge ray tri.v1 tri.v2 m.first
  pub second : IsEdge ray tri.v2 tri.v0 m.second
  pub third : IsEdge ray tri.v0 tri.v1 m.third
  pub den : m.den ≡ den_of ray tri
  pub den_short : IsWithin (3 * 2 ^ 61) m.den
  pub num : m.num ≡ num_of ray tri
  pub num_short : IsWithin (3 * 2 ^ 61) m.num

-- the determinant isn't 0, and the three sides equal its sign
pub record AreInside (m : Measured) : Type 0 where
  pub crosses : m.den ≢ pos 0
  pub first : m.first.side ≡ sign_of m.den
  pub second : m.second.side ≡ sign_of m.den
  pub third : m.third.side ≡ sign_of m.den
