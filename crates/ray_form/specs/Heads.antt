-- The head of a geometry: eight words of 32 bits, which are the number of its kind, its opacity, the number of its format,
-- the number of its index type, the count of its elements, and three zeros. Its elements follow. (Own: the layout; the kinds
-- are VkGeometryTypeKHR, the formats VkFormat, the index types VkIndexType.)
--
-- By hand, 0, 1, 0, 0, 1, 0, 0, 0 is the head of an opaque geometry of one triangle in the format s32x3 without indices,
-- which takes 32 + 48 bytes.
use Rattle.std.specs.Prelude.{ℕ, ◌+◌, ◌*◌, ◌==◌, ◌&&◌, nat_le, Bool, if◌then◌else◌, Option, None, option_map, List, length, take, drop}
use Rattle.ray_bytes.specs.Fields.{word_at}
use Rattle.ray_bytes.specs.declared.format.Format.{Format}
use Rattle.ray_bytes.specs.declared.format.Format.TheVariants.{S32x3, S32x2, S16x3}
use Rattle.ray_flags.specs.declared.kind.Kind.{Kind}
use Rattle.ray_flags.specs.declared.kind.Kind.TheVariants.{Triangle, Aabb}
use Rattle.ray_geometries.specs.declared.geometry.Geometry.{Geometry}
use Rattle.ray_geometries.specs.declared.shapes.Shapes.{Shapes}
use Rattle.ray_geometries.specs.Storing.{stored_shapes}

-- ---- sizes, in bytes

-- an element by the number of its kind: 0 is a triangle, 1 a box and 2 an instance
abbrev pub element_size : ℕ → ℕ
element_size kind = if kind == 0 then 48 else if kind == 1 then 24 else 64

-- how many elements the geometry has that begins here
unfoldable pub count_in : List ℕ → ℕ
count_in rest = word_at rest 16

-- all its elements, and all of it
unfoldable pub elements_size : List ℕ → ℕ
elements_size rest = element_size (word_at rest 0) * count_in rest

abbrev pub geometry_size : List ℕ → ℕ
geometry_size rest = 32 + elements_size rest

-- ---- the head

-- the greatest opacity of a kind, and the greatest number of a format and of an index type: instances aren't opaque, and
-- triangles alone have formats and indices
abbrev pub greatest_opacity : ℕ → ℕ
greatest_opacity kind = if kind == 2 then 0 else 1

abbrev pub greatest_number : ℕ → ℕ
greatest_number kind = if kind == 0 then 2 else 0

-- whether the last three words are zeros
unfoldable pub has_zeros : List ℕ → Bool
has_zeros rest = (word_at rest 20 == 0) && (word_at rest 24 == 0) && (word_at rest 28 == 0)

-- whether these bytes begin with a head of this kind
unfoldable pub is_head : ℕ → List ℕ → Bool
is_head kind rest =
    (word_at rest 0 == kind) && nat_le (word_at rest 4) (greatest_opacity kind) && nat_le (word_at rest 8) (greatest_number kind)
    && nat_le (word_at rest 12) (greatest_number kind) && has_zeros rest

-- whether a head and all its elements are there
unfoldable pub is_whole : List ℕ → Bool
is_whole rest = nat_le 32 (length rest) && nat_le (geometry_size rest) (length rest)

-- whether these bytes begin with a geometry of this kind
unfoldable pub is_geometry : ℕ → List ℕ → Bool
is_geometry kind rest = is_whole rest && is_head kind rest

-- ---- what a geometry of a bottom structure says

-- the kind, the format and the size of an index by their numbers
abbrev pub kind_named : ℕ → Kind
kind_named number = if number == 0 then Triangle else Aabb

abbrev pub format_named : ℕ → Format
format_named number = if number == 0 then S32x3 else if number == 1 then S32x2 else S16x3

abbrev pub index_size_named : ℕ → ℕ
index_size_named number = if number == 0 then 0 else if number == 1 then 2 else 4

-- the bytes of its elements
unfoldable pub elements_in : List ℕ → List ℕ
elements_in rest = take (elements_size rest) (drop 32 rest)

-- the primitives that its elements stand for, where each stands for one
unfoldable pub shapes_in : List ℕ → Option Shapes
shapes_in rest =
    stored_shapes (kind_named (word_at rest 0)) (format_named (word_at rest 8)) (index_size_named (word_at rest 12)) (count_in rest)
    (elements_in rest)

-- the geometry, where it is whole and each of its elements stands for a primitive
abbrev pub geometry_of : Bool → Shapes → Geometry
geometry_of opaque shapes = record { opaque = opaque; shapes = shapes }

unfoldable pub geometry_in : List ℕ → Option Geometry
geometry_in rest = if is_whole rest then option_map (geometry_of (word_at rest 4 == 1)) (shapes_in rest) else None
