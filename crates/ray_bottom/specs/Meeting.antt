-- What a ray meets of a primitive of a structure that an instance places in the world. (Vulkan, "Ray Traversal".)
use Rattle.std.specs.Prelude.{ℕ, ◌^◌, Option, option_map, option_and_then, List, All, slice_get}
use Rattle.ray_geom.specs.declared.vec3.Vec3.{Vec3}
use Rattle.ray_geom.specs.Vector.{IsShort}
use Rattle.ray_geom.specs.Scene.{RayValue, TriValue}
use Rattle.ray_geom.specs.Boxes.{BoxValue, IsIn}
use Rattle.ray_geom.specs.Transform.{MatrixValue, image_of, world_tri}
use Rattle.ray_geom.specs.Frac.{numerator, denominator}
use Rattle.ray_geom.specs.HitValue.{HitValue, hit_of, hit_value, reduced_hit}
use Rattle.ray_geom.specs.ObjectRay.{object_of}
use Rattle.ray_prune.specs.BoxReach.{SpanValue, span_of, span_value}
use Rattle.ray_primitives.specs.Primitives.{TriangleValue}
use Rattle.ray_geometries.specs.declared.geometry.Geometry.{Geometry}
use Rattle.ray_geometries.specs.declared.shapes.Shapes.{Shapes}
use Rattle.ray_geometries.specs.declared.shapes.Shapes.TheVariants.{Triangles, Boxes}
use Rattle.ray_leaves.specs.declared.prim_place.PrimPlace.{PrimPlace}
use Rattle.ray_bottom.specs.declared.meet.Meet.{Meet}
use Rattle.ray_bottom.specs.declared.meet.Meet.TheVariants.{Tri, Aabb}
use Rattle.ray_bottom.specs.declared.raw_meet.RawMeet.{RawMeet}
use Rattle.ray_bottom.specs.declared.raw_meet.RawMeet.TheVariants as raw

-- what is met: the hit of a triangle, or the span of a box
pub data MeetValue : Type 0 where
  Hit : (hit : HitValue) → MeetValue
  Through : (span : SpanValue) → MeetValue

-- what the program tells of it
abbrev pub meet_value : Meet → MeetValue
meet_value (Tri hit) = Hit (hit_value hit)
meet_value (Aabb span) = Through (span_value span)

-- and of what is met with fractions that aren't in lowest terms yet
abbrev pub raw_meet_value : RawMeet → MeetValue
raw_meet_value (raw.Tri hit) = Hit (hit_value (reduced_hit hit))
raw_meet_value (raw.Aabb entry exit) = Through (record {
  entry = (numerator entry, denominator entry);
  exit = (numerator exit, denominator exit);
})

-- the hit of the world triangle of a triangle
unfoldable pub hit_in_world : RayValue → MatrixValue → TriValue → Option MeetValue
hit_in_world ray m tri = option_map Hit (hit_of ray (world_tri m tri))

-- the span of a box, in the object's space
unfoldable pub span_in_object : RayValue → MatrixValue → BoxValue → Option MeetValue
span_in_object ray m box = option_map Through (span_of (object_of ray m) box)

-- what a ray meets of a triangle, and of a box: nothing where it is inactive
abbrev pub triangle_meet : RayValue → MatrixValue → TriangleValue → Option MeetValue
triangle_meet ray m t = option_and_then (hit_in_world ray m) t.tri

abbrev pub box_meet : RayValue → MatrixValue → Option BoxValue → Option MeetValue
box_meet ray m box = option_and_then (span_in_object ray m) box

-- what it meets of the primitive of this number
abbrev pub shape_meet : RayValue → MatrixValue → ℕ → Shapes → Option MeetValue
shape_meet ray m i (Triangles format index_size triangles) = option_and_then (triangle_meet ray m) (slice_get triangles i)
shape_meet ray m i (Boxes boxes) = option_and_then (box_meet ray m) (slice_get boxes i)

-- what it meets of the primitive at a place; nothing where none stands there
abbrev pub meet_of : List Geometry → PrimPlace → RayValue → MatrixValue → Option MeetValue
meet_of geometries place ray m =
    option_and_then (λ (g : Geometry). shape_meet ray m place.primitive g.shapes) (slice_get geometries place.geometry)

-- ---- words of private calls alone

-- the images of the points of a box are within the limits
pub record KeepsPoints (m : MatrixValue) (box : BoxValue) : Type 0 where
  pub each : (p : Vec3) → IsIn p box → IsShort (2 ^ 19) (image_of m p)

-- the same of each of these boxes
pub record KeepsBoxes (m : MatrixValue) (boxes : List BoxValue) : Type 0 where
  pub each : All (KeepsPoints m) boxes

-- the images of the vertices of a triangle are within the limits
pub record KeepsTri (m : MatrixValue) (tri : TriValue) : Type 0 where
  pub v0 : IsShort (2 ^ 19) (image_of m tri.v0)
  pub v1 : IsShort (2 ^ 19) (image_of m tri.v1)
  pub v2 : IsShort (2 ^ 19) (image_of m tri.v2)
