-- Primitives as they are stored, little-endian: a triangle in 48 bytes, which are its nine coordinates and its three index
-- values, and a box in 24, its six coordinates. An inactive one has the mark as x of its first point, and 0 in its other
-- coordinates. (Own: the layout.)
--
-- By hand, the triangle (0,0,0), (4,0,0), (0,4,0) without indices is stored as 12 zero bytes, 04 00 00 00 and 8 zero bytes,
-- 00 00 00 00, 04 00 00 00 and 4 zero bytes, and 12 zero bytes.
use Rattle.std.specs.Prelude.{ℕ, pos, ◌+◌, ◌*◌, ◌&&◌, Bool, if◌then◌else◌, Option, Some, None, List, [], ◌∷◌, ◌++◌, take, drop}
use Rattle.std.specs.Int.{w32, cast_unsigned}
use Rattle.std.specs.List.{flat_map}
use Rattle.std.specs.Ordering.{int_eq}
use Rattle.byteorder.specs.Endian.{little_bytes}
use Rattle.ray_geom.specs.declared.vec3.Vec3.{Vec3}
use Rattle.ray_geom.specs.Vector.{vec3}
use Rattle.ray_geom.specs.Scene.{TriValue, tri_value}
use Rattle.ray_geom.specs.Boxes.{BoxValue, box_value}
use Rattle.ray_bytes.specs.InactiveMark.{inactive_mark, is_inactive_mark}
use Rattle.ray_bytes.specs.Fields.{word_at, signed_at}
use Rattle.ray_contents.specs.Gathering.{all_some}
use Rattle.ray_contents.specs.Limits.{point_within}
use Rattle.ray_primitives.specs.declared.index_values.IndexValues.{IndexValues}
use Rattle.ray_primitives.specs.Primitives.{TriangleValue, active_triangle, inactive_triangle, index_fits}
use Rattle.ray_primitives.specs.BoxReading.{is_ordered}

-- ---- written

-- the coordinates of a point as words of 32 bits
abbrev pub point_words : Vec3 → List ℕ
point_words v = cast_unsigned w32 v.x ∷ cast_unsigned w32 v.y ∷ cast_unsigned w32 v.z ∷ []

-- the points that stand for an inactive primitive: the mark, and zeros
abbrev pub marked_point : Vec3
marked_point = vec3 inactive_mark (pos 0) (pos 0)

abbrev pub zero_point : Vec3
zero_point = vec3 (pos 0) (pos 0) (pos 0)

-- the points of a triangle and of a box as they are written
abbrev pub written_tri : Option TriValue → TriValue
written_tri (Some tri) = tri
written_tri None = tri_value marked_point zero_point zero_point

abbrev pub written_box : Option BoxValue → BoxValue
written_box (Some box) = box
written_box None = box_value marked_point zero_point

-- the words of a triangle, and of a box
abbrev pub corner_words : TriValue → List ℕ
corner_words tri = point_words tri.v0 ++ point_words tri.v1 ++ point_words tri.v2

abbrev pub index_words : IndexValues → List ℕ
index_words i = i.first ∷ i.second ∷ i.third ∷ []

abbrev pub triangle_words : TriangleValue → List ℕ
triangle_words t = corner_words (written_tri t.tri) ++ index_words t.indices

abbrev pub aabb_words : Option BoxValue → List ℕ
aabb_words box = point_words (written_box box).lo ++ point_words (written_box box).hi

-- the 48 bytes of a triangle, and the 24 of a box
unfoldable pub triangle_bytes : TriangleValue → List ℕ
triangle_bytes t = flat_map (little_bytes 4) (triangle_words t)

unfoldable pub aabb_bytes : Option BoxValue → List ℕ
aabb_bytes box = flat_map (little_bytes 4) (aabb_words box)

-- ---- read back

-- the point whose three coordinates stand at a place
unfoldable pub point_at : List ℕ → ℕ → Vec3
point_at bytes at = vec3 (signed_at bytes at) (signed_at bytes (at + 4)) (signed_at bytes (at + 8))

-- the index values of a triangle
unfoldable pub indices_at : List ℕ → IndexValues
indices_at bytes = record { first = word_at bytes 36; second = word_at bytes 40; third = word_at bytes 44 }

-- whether all three index values fit their size
unfoldable pub indices_fit : ℕ → IndexValues → Bool
indices_fit size i = (index_fits size i.first && index_fits size i.second) && index_fits size i.third

-- whether a point is zero, and whether it is but for x
unfoldable pub is_zero : Vec3 → Bool
is_zero v = (int_eq v.x (pos 0) && int_eq v.y (pos 0)) && int_eq v.z (pos 0)

unfoldable pub is_zero_but_x : Vec3 → Bool
is_zero_but_x v = int_eq v.y (pos 0) && int_eq v.z (pos 0)

-- the inactive triangle, where its coordinates are the mark and zeros
unfoldable pub inactive_from : Vec3 → Vec3 → Vec3 → IndexValues → Option TriangleValue
inactive_from a b c indices = if (is_zero_but_x a && is_zero b) && is_zero c then Some (inactive_triangle indices) else None

-- the active triangle, where its coordinates are within the limits
abbrev pub active_from : Option Vec3 → Option Vec3 → Option Vec3 → IndexValues → Option TriangleValue
active_from (Some a) (Some b) (Some c) indices = Some (active_triangle a b c indices)
active_from (Some a) (Some b) None indices = None
active_from (Some a) None c indices = None
active_from None b c indices = None

-- the triangle of three points, by the mark
unfoldable pub marked_from : Vec3 → Vec3 → Vec3 → IndexValues → Option TriangleValue
marked_from a b c indices =
    if is_inactive_mark a.x then inactive_from a b c indices
    else active_from (point_within a) (point_within b) (point_within c) indices

-- the same where the index values fit their size
unfoldable pub stored_from : ℕ → Vec3 → Vec3 → Vec3 → IndexValues → Option TriangleValue
stored_from size a b c indices = if indices_fit size indices then marked_from a b c indices else None

-- the triangle of 48 bytes; none where they stand for none
unfoldable pub stored_triangle : ℕ → List ℕ → Option TriangleValue
stored_triangle size bytes = stored_from size (point_at bytes 0) (point_at bytes 12) (point_at bytes 24) (indices_at bytes)

-- the inactive box, where its coordinates are the mark and zeros
unfoldable pub inactive_box_from : Vec3 → Vec3 → Option (Option BoxValue)
inactive_box_from lo hi = if is_zero_but_x lo && is_zero hi then Some None else None

-- the active box, where its coordinates are within the limits and no minimum is above its maximum
abbrev pub active_box_from : Option Vec3 → Option Vec3 → Option (Option BoxValue)
active_box_from (Some lo) (Some hi) = if is_ordered lo hi then Some (Some (box_value lo hi)) else None
active_box_from (Some lo) None = None
active_box_from None hi = None

-- the box of two points, by the mark
unfoldable pub stored_box_from : Vec3 → Vec3 → Option (Option BoxValue)
stored_box_from lo hi =
    if is_inactive_mark lo.x then inactive_box_from lo hi else active_box_from (point_within lo) (point_within hi)

-- the box of 24 bytes; none where they stand for none
unfoldable pub stored_box : List ℕ → Option (Option BoxValue)
stored_box bytes = stored_box_from (point_at bytes 0) (point_at bytes 12)

-- ---- lists

-- part i of bytes, in parts of one size
unfoldable pub part_at : ℕ → List ℕ → ℕ → List ℕ
part_at size bytes i = take size (drop (size * i) bytes)

-- triangle i, and box i, of bytes
unfoldable pub stored_triangle_at : ℕ → List ℕ → ℕ → Option TriangleValue
stored_triangle_at size bytes i = stored_triangle size (part_at 48 bytes i)

unfoldable pub stored_box_at : List ℕ → ℕ → Option (Option BoxValue)
stored_box_at bytes i = stored_box (part_at 24 bytes i)

-- the first triangles, and the first boxes, of bytes; none where one of them stands for none
abbrev pub stored_triangles : ℕ → ℕ → List ℕ → Option (List TriangleValue)
stored_triangles size count bytes = all_some (stored_triangle_at size bytes) count

abbrev pub stored_boxes : ℕ → List ℕ → Option (List (Option BoxValue))
stored_boxes count bytes = all_some (stored_box_at bytes) count
