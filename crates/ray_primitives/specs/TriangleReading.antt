-- How a geometry of triangles is read: which vertices its numbers name, which triangles they make, and which data rule is
-- broken first. (VkAccelerationStructureGeometryTrianglesDataKHR and VkAccelerationStructureBuildRangeInfoKHR; own: the
-- rules X1 to X3 and their order.)
--
-- By hand, for a triangle with u16 indices 2, 0, 1, `first_vertex` 1 and `max_vertex` 2: its corners are the vertices 3, 1
-- and 2, with the index values 2, 0 and 1. With `max_vertex` 1 the first index breaks X1. Without indices triangle 1 of
-- the same `first_vertex` has the vertices 4, 5 and 6, and the index values 0.
use Rattle.std.specs.Prelude.{ℕ, ◌+◌, ◌*◌, ◌==◌, ◌&&◌, nat_le, Bool, if◌then◌else◌, Result, Ok, Err, Option, Some, None, option_map, option_and_then, List}
use Rattle.ray_geom.specs.declared.vec3.Vec3.{Vec3}
use Rattle.ray_geom.specs.Vector.{point_of}
use Rattle.ray_geom.specs.Transform.{MatrixValue, matrix_of, table_of}
use Rattle.ray_bytes.specs.declared.data_rule.DataRule.{DataRule}
use Rattle.ray_bytes.specs.declared.data_rule.DataRule.TheVariants.{X1, X2, X3}
use Rattle.ray_bytes.specs.declared.data_fault.DataFault.{DataFault}
use Rattle.ray_bytes.specs.Formats.{vertex_size}
use Rattle.ray_bytes.specs.InactiveMark.{is_inactive_mark}
use Rattle.ray_bytes.specs.Slices.{record_at}
use Rattle.ray_bytes.specs.Records.{vertex_of, index_size, index_of, transform_of}
use Rattle.ray_bytes.specs.Views.{Vertices, Indices}
use Rattle.ray_contents.specs.Gathering.{gathered}
use Rattle.ray_contents.specs.Limits.{point_within, image_within, matrix_within}
use Rattle.ray_primitives.specs.declared.index_values.IndexValues.{IndexValues}
use Rattle.ray_primitives.specs.declared.triangle_info.TriangleInfo.{TriangleInfo}
use Rattle.ray_primitives.specs.declared.corner.Corner.{Corner}
use Rattle.ray_primitives.specs.Primitives.{TriangleValue, active_triangle, inactive_triangle, index_fits}
use Rattle.ray_primitives.specs.Outcomes.{at_element, geometry_fault}
use Rattle.ray_primitives.specs.Updates.{old_at, triangle_after}

-- what a geometry of triangles is read from: its info, its views, and its transform
pub record TriangleSource : Type 0 where
  pub info : TriangleInfo
  pub vertices : Vertices
  pub indices : Option Indices
  pub matrix : Option MatrixValue

-- ---- which vertices the numbers of a geometry name

-- a vertex of the buffer, where it is whole
unfoldable pub vertex_at : Vertices → ℕ → Option Vec3
vertex_at v i = option_map point_of (option_map (vertex_of v.format) (record_at v.bytes v.start v.stride (vertex_size v.format) i))

-- an index value of the buffer, where it is whole
unfoldable pub index_at : Indices → ℕ → Option ℕ
index_at v k = option_map (index_of v.wide) (record_at v.bytes v.start (index_size v.wide) (index_size v.wide) k)

-- a corner: an index value, and the vertex that it names
abbrev pub corner_with : ℕ → Option Vec3 → Option Corner
corner_with index None = None
corner_with index (Some at) = Some (record { index = index; at = at })

-- whether an index value may be used: it is at most `max_vertex`, before `first_vertex` is added, and fits its size, as each
-- that is read of a buffer does
unfoldable pub may_name : TriangleInfo → ℕ → Bool
may_name info index = nat_le index info.max_vertex && index_fits info.index_size index

-- the corner that an index value names: vertex `first_vertex` + index
abbrev pub named_corner : TriangleInfo → Vertices → Option ℕ → Option Corner
named_corner info vertices None = None
named_corner info vertices (Some index) =
    if may_name info index then corner_with index (vertex_at vertices (info.first_vertex + index)) else None

-- corner number k: with indices the one that index number k names, and without indices vertex `first_vertex` + k
abbrev pub corner_from : TriangleInfo → Vertices → Option Indices → ℕ → Option Corner
corner_from info vertices None k = corner_with 0 (vertex_at vertices (info.first_vertex + k))
corner_from info vertices (Some indices) k = named_corner info vertices (index_at indices k)

unfoldable pub corner_of : TriangleSource → ℕ → Option Corner
corner_of source k = corner_from source.info source.vertices source.indices k

-- ---- which triangle they make

-- a point, and its image under the geometry's transform, where both are within the limits
abbrev pub placed_of : Option MatrixValue → Vec3 → Option Vec3
placed_of None v = point_within v
placed_of (Some m) v = option_and_then (image_within m) (point_within v)

-- the active triangle of three points within the limits; X2 where there is one beyond them
abbrev pub limited : Option Vec3 → Option Vec3 → Option Vec3 → IndexValues → Result TriangleValue DataRule
limited (Some a) (Some b) (Some c) indices = Ok (active_triangle a b c indices)
limited (Some a) (Some b) None indices = Err X2
limited (Some a) None c indices = Err X2
limited None b c indices = Err X2

-- the index values of three corners
abbrev pub indices_of : Corner → Corner → Corner → IndexValues
indices_of a b c = record { first = a.index; second = b.index; third = c.index }

-- the triangle of three corners: the mark as x of the first makes it inactive
unfoldable pub made_of : Option MatrixValue → Corner → Corner → Corner → Result TriangleValue DataRule
made_of m a b c =
    if is_inactive_mark a.at.x then Ok (inactive_triangle (indices_of a b c))
    else limited (placed_of m a.at) (placed_of m b.at) (placed_of m c.at) (indices_of a b c)

-- the same where each corner is named; X1 where one isn't, whether the triangle is active or not
abbrev pub triangle_from : Option MatrixValue → Option Corner → Option Corner → Option Corner → Result TriangleValue DataRule
triangle_from m (Some a) (Some b) (Some c) = made_of m a b c
triangle_from m (Some a) (Some b) None = Err X1
triangle_from m (Some a) None c = Err X1
triangle_from m None b c = Err X1

-- triangle i has the corners 3 i, 3 i + 1 and 3 i + 2
unfoldable pub triangle_of : TriangleSource → ℕ → Result TriangleValue DataRule
triangle_of source i =
    triangle_from source.matrix (corner_of source (3 * i)) (corner_of source (3 * i + 1)) (corner_of source (3 * i + 2))

-- ---- the geometry

-- a triangle that is read, as an update of the one of its number, if it is one
abbrev pub updated_triangle : Option TriangleValue → Result TriangleValue DataRule → Result TriangleValue DataRule
updated_triangle old (Ok t) = triangle_after old t
updated_triangle old (Err rule) = Err rule

-- triangle i of a geometry, or the least rule that it breaks, with its place
unfoldable pub triangle_element : TriangleSource → Option (List TriangleValue) → ℕ → ℕ → Result TriangleValue DataFault
triangle_element source olds geometry i = at_element geometry i (updated_triangle (old_at olds i) (triangle_of source i))

-- a transform within the limits; X3 where it is beyond them
abbrev pub usable : ℕ → Option MatrixValue → Result (Option MatrixValue) DataFault
usable geometry None = Err (geometry_fault X3 geometry)
usable geometry (Some m) = Ok (Some m)

-- the transform of a geometry, which is looked at where the geometry has a triangle
abbrev pub transform_read : ℕ → ℕ → Option (List ℕ) → Result (Option MatrixValue) DataFault
transform_read geometry count None = Ok None
transform_read geometry count (Some bytes) =
    if count == 0 then Ok None else usable geometry (matrix_within (matrix_of (table_of (transform_of bytes))))

-- all triangles of a geometry, or the first rule that is broken: that of the transform goes first
abbrev pub triangles_with : TriangleInfo → Vertices → Option Indices → Option (List TriangleValue) → ℕ → Result (Option MatrixValue) DataFault → Result (List TriangleValue) DataFault
triangles_with info vertices indices olds geometry (Err fault) = Err fault
triangles_with info vertices indices olds geometry (Ok matrix) =
    let source : TriangleSource = record { info = info; vertices = vertices; indices = indices; matrix = matrix } in
    gathered (triangle_element source olds geometry) info.count

unfoldable pub triangles_read : TriangleInfo → Vertices → Option Indices → Option (List ℕ) → Option (List TriangleValue) → ℕ → Result (List TriangleValue) DataFault
triangles_read info vertices indices transform olds geometry =
    triangles_with info vertices indices olds geometry (transform_read geometry info.count transform)
