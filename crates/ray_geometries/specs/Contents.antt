-- The contents of a bottom structure. (Vulkan, "Acceleration Structures": geometries, active and inactive primitives,
-- VkAccelerationStructureGeometryKHR; own: the limits of counts.)
use Rattle.std.specs.Prelude.{ℕ, ◌≡◌, ◌≤◌, ◌<◌, ◌+◌, ◌^◌, ◌==◌, ◌&&◌, ◌||◌, ◌++◌, Bool, true, false, Option, List, [], ◌∷◌, length, All, sum_by}
use Rattle.std.specs.List.{filter_map, flat_map}
use Rattle.ray_geom.specs.Boxes.{BoxValue}
use Rattle.ray_geom.specs.LeastBoxes.{box_of_boxes}
use Rattle.ray_flags.specs.declared.kind.Kind.{Kind}
use Rattle.ray_flags.specs.declared.kind.Kind.TheVariants.{Triangle, Aabb}
use Rattle.ray_flags.specs.declared.build_flags.BuildFlags.{BuildFlags}
use Rattle.ray_flags.specs.Flags.{build_has, PreferFastTrace, PreferFastBuild}
use Rattle.ray_primitives.specs.Primitives.{IsTriangleOf, IsAabb, box_of_triangle}
use Rattle.ray_geometries.specs.declared.geometry.Geometry.{Geometry}
use Rattle.ray_geometries.specs.declared.shapes.Shapes.{Shapes}
use Rattle.ray_geometries.specs.declared.shapes.Shapes.TheVariants.{Triangles, Boxes}

-- the contents: the flags of the build, and the geometries. A geometry has its opacity and its primitives: triangles, with
-- the format of their vertices and the size of their indices, or boxes
pub record ContentsValue : Type 0 where
  pub flags : BuildFlags
  pub geometries : List Geometry

-- ---- of one geometry

-- its kind
abbrev pub kind_of_shapes : Shapes → Kind
kind_of_shapes (Triangles format index_size triangles) = Triangle
kind_of_shapes (Boxes boxes) = Aabb

abbrev pub kind_of : Geometry → Kind
kind_of g = kind_of_shapes g.shapes

-- how many primitives it has, inactive ones among them
abbrev pub count_of_shapes : Shapes → ℕ
count_of_shapes (Triangles format index_size triangles) = length triangles
count_of_shapes (Boxes boxes) = length boxes

abbrev pub count_of : Geometry → ℕ
count_of g = count_of_shapes g.shapes

-- the least boxes of its active primitives, in order
abbrev pub boxes_of_shapes : Shapes → List BoxValue
boxes_of_shapes (Triangles format index_size triangles) = filter_map box_of_triangle triangles
boxes_of_shapes (Boxes boxes) = filter_map (λ box. box) boxes

abbrev pub boxes_of : Geometry → List BoxValue
boxes_of g = boxes_of_shapes g.shapes

-- ---- of all geometries together

-- how many primitives there are, inactive ones among them
abbrev pub total_of : List Geometry → ℕ
total_of geometries = sum_by count_of geometries

-- the least boxes of the active primitives
abbrev pub active_boxes : List Geometry → List BoxValue
active_boxes geometries = flat_map boxes_of geometries

-- how many active primitives there are
abbrev pub active_of : List Geometry → ℕ
active_of geometries = length (active_boxes geometries)

-- the least box of the active primitives, if there are any
abbrev pub bounds_of : List Geometry → Option BoxValue
bounds_of geometries = box_of_boxes (active_boxes geometries)

-- ---- the limits

-- whether a number is an index size in bytes: 0 where there are no indices, else 2 or 4 (VkIndexType)
abbrev pub is_index_size : ℕ → Bool
is_index_size size = ((size == 0) || (size == 2)) || (size == 4)

-- the primitives of a geometry are within the limits, and the index values fit their size
abbrev pub ShapesAreWithin : Shapes → Type 0
ShapesAreWithin (Triangles format index_size triangles) = (is_index_size index_size ≡ true) × All (IsTriangleOf index_size) triangles
ShapesAreWithin (Boxes boxes) = All IsAabb boxes

pub record IsGeometry (g : Geometry) : Type 0 where
  pub within : ShapesAreWithin g.shapes

-- whether both flags that ask for speed are set
abbrev pub has_both_fast : BuildFlags → Bool
has_both_fast flags = build_has flags PreferFastTrace && build_has flags PreferFastBuild

-- contents within the limits: at most 256 geometries, all of one kind, with at most 2^20 primitives together, each within
-- its limits; and not both flags that ask for speed
pub record IsContents (c : ContentsValue) : Type 0 where
  pub geometries : length c.geometries ≤ 256
  pub primitives : total_of c.geometries ≤ 2 ^ 20
  pub one_kind : All (λ g. All (λ h. kind_of g ≡ kind_of h) c.geometries) c.geometries
  pub each : All IsGeometry c.geometries
  pub flags : has_both_fast c.flags ≡ false

-- contents with one geometry more
abbrev pub with_geometry : ContentsValue → Geometry → ContentsValue
with_geometry c g = record { flags = c.flags; geometries = c.geometries ++ g ∷ [] }

-- there is room for one geometry more of this kind with this many primitives
pub record HasRoom (kind : Kind) (count : ℕ) (geometries : List Geometry) : Type 0 where
  pub geometries_below : length geometries < 256
  pub primitives : total_of geometries + count ≤ 2 ^ 20
  pub one_kind : All (λ g. kind_of g ≡ kind) geometries
