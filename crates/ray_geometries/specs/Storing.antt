-- The payload: the contents of a bottom structure as they are stored, little-endian in words of 32 bits. (Own: the layout.)
--
-- By hand, for one opaque geometry of one triangle in the format s32x3 without indices: 0, the flags, 1 and 0; then 0, 1, 0,
-- 0, 1 and three times 0; then the 48 bytes of the triangle.
use Rattle.std.specs.Prelude.{ℕ, ◌≡◌, ◌≤◌, ◌+◌, ◌*◌, ◌==◌, ◌&&◌, Bool, if◌then◌else◌, Option, Some, None, option_map, List, [], ◌∷◌, ◌++◌, length, Result, Ok, Err}
use Rattle.std.specs.List.{flat_map}
use Rattle.byteorder.specs.Endian.{little_bytes}
use Rattle.ray_bytes.specs.declared.format.Format.{Format}
use Rattle.ray_bytes.specs.declared.format.Format.TheVariants.{S32x3, S32x2, S16x3}
use Rattle.ray_flags.specs.declared.kind.Kind.{Kind}
use Rattle.ray_flags.specs.declared.kind.Kind.TheVariants.{Triangle, Aabb}
use Rattle.ray_primitives.specs.StoredPrimitives.{triangle_bytes, aabb_bytes, stored_triangles, stored_boxes}
use Rattle.ray_geometries.specs.declared.geometry.Geometry.{Geometry}
use Rattle.ray_geometries.specs.declared.shapes.Shapes.{Shapes}
use Rattle.ray_geometries.specs.declared.shapes.Shapes.TheVariants.{Triangles, Boxes}
use Rattle.ray_geometries.specs.Contents.{ContentsValue, kind_of, kind_of_shapes, count_of, count_of_shapes, is_index_size, ShapesAreWithin}

-- ---- the numbers of a geometry's head

abbrev pub kind_number : Kind → ℕ
kind_number Triangle = 0
kind_number Aabb = 1

abbrev pub opaque_number : Bool → ℕ
opaque_number opaque = if opaque then 1 else 0

abbrev pub format_number : Format → ℕ
format_number S32x3 = 0
format_number S32x2 = 1
format_number S16x3 = 2

abbrev pub index_number : ℕ → ℕ
index_number size = if size == 0 then 0 else if size == 2 then 1 else 2

-- the format and the index size of a geometry; those of boxes are the first of each
abbrev pub format_of : Shapes → Format
format_of (Triangles format index_size triangles) = format
format_of (Boxes boxes) = S32x3

abbrev pub index_size_of : Shapes → ℕ
index_size_of (Triangles format index_size triangles) = index_size
index_size_of (Boxes boxes) = 0

-- ---- the bytes

-- the elements of a geometry
abbrev pub element_bytes : Shapes → List ℕ
element_bytes (Triangles format index_size triangles) = flat_map triangle_bytes triangles
element_bytes (Boxes boxes) = flat_map aabb_bytes boxes

-- words, and the head of a geometry: kind, opacity, format, index type, count, and three zeros
unfoldable pub bytes_of_words : List ℕ → List ℕ
bytes_of_words words = flat_map (little_bytes 4) words

abbrev pub geometry_words : Geometry → List ℕ
geometry_words g =
    kind_number (kind_of g) ∷ opaque_number g.opaque ∷ format_number (format_of g.shapes) ∷ index_number (index_size_of g.shapes)
    ∷ count_of g ∷ 0 ∷ 0 ∷ 0 ∷ []

-- a geometry: its head, and its elements
abbrev pub geometry_bytes : Geometry → List ℕ
geometry_bytes g = bytes_of_words (geometry_words g) ++ element_bytes g.shapes

-- the head of a bottom structure: its kind, which is 0, its build flags, how many geometries it has, and 0
abbrev pub payload_words : ContentsValue → List ℕ
payload_words c = 0 ∷ c.flags.0 ∷ length c.geometries ∷ 0 ∷ []

-- the payload: the head, and the geometries
abbrev pub payload_of : ContentsValue → List ℕ
payload_of c = bytes_of_words (payload_words c) ++ flat_map geometry_bytes c.geometries

-- bytes are appended, and so many steps are counted; for want of memory nothing is said but that no step is taken back
abbrev pub Appends : {E : Type 0} → List ℕ → ℕ → List ℕ → List ℕ → ℕ → ℕ → Result (Unit {0}) E → Type 0
Appends added count before after from to (Ok done) = (after ≡ before ++ added) × (to ≡ from + count)
Appends added count before after from to (Err fault) = from ≤ to

-- ---- read back

-- the primitives that a geometry's head and elements stand for, where they stand for some: the index size is one, and 0 for
-- boxes; the elements fill the bytes; and each stands for one
unfoldable pub triangles_of : Format → ℕ → ℕ → List ℕ → Option Shapes
triangles_of format size count bytes =
    if is_index_size size && (length bytes == 48 * count) then option_map (Triangles format size) (stored_triangles size count bytes) else None

unfoldable pub boxes_of_elements : ℕ → ℕ → List ℕ → Option Shapes
boxes_of_elements size count bytes =
    if (size == 0) && (length bytes == 24 * count) then option_map Boxes (stored_boxes count bytes) else None

abbrev pub stored_shapes : Kind → Format → ℕ → ℕ → List ℕ → Option Shapes
stored_shapes Triangle format size count bytes = triangles_of format size count bytes
stored_shapes Aabb format size count bytes = boxes_of_elements size count bytes

-- what is stored of a geometry and read back is its primitives
pub record IsStoredBack (g : Geometry) : Type 0 where
  pub same : stored_shapes (kind_of g) (format_of g.shapes) (index_size_of g.shapes) (count_of g) (element_bytes g.shapes) ≡ Some g.shapes

-- ---- words of private calls alone

-- the primitives of a geometry of this kind with this count are within the limits
pub record AreStored (kind : Kind) (count : ℕ) (s : Shapes) : Type 0 where
  pub kind_is : kind_of_shapes s ≡ kind
  pub count_is : count_of_shapes s ≡ count
  pub within : ShapesAreWithin s
