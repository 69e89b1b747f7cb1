-- The bytes that a geometry reads, and those that have to be there. (Vulkan: the valid usage of
-- VkAccelerationStructureBuildRangeInfoKHR; own: the ranges.)
use Rattle.std.specs.Prelude.{ℕ, ◌+◌, ◌-◌, ◌*◌, List, [], ◌∷◌, Option, Some, None, Bool, false, nat_lt, ◌==◌, if◌then◌else◌, min, option_map}
use Rattle.std.specs.List.{sum_by}
use Rattle.std.specs.Option.{option_map_or}
use Rattle.ray_bytes.specs.Formats.{vertex_size}
use Rattle.ray_bytes.specs.StructureSizes.{build_scratch_size, update_scratch_size}
use Rattle.ray_bytes.specs.declared.format.Format.{Format}
use Rattle.ray_cmd.specs.declared.build_mode.BuildMode.{BuildMode}
use Rattle.ray_cmd.specs.declared.build_mode.BuildMode.TheVariants as modes
use Rattle.ray_cmd.specs.declared.geometry.Geometry.{Geometry}
use Rattle.ray_cmd.specs.declared.geometry.Geometry.TheVariants as geometries
use Rattle.ray_cmd.specs.declared.index.Index.{Index}
use Rattle.ray_cmd.specs.declared.info.Info.{Info}
use Rattle.ray_cmd.specs.declared.spot.Spot.{Spot}
use Rattle.ray_ranges.specs.declared.place.Place.{Place}
use Rattle.ray_ranges.specs.Places.{overlaps}
use Rattle.ray_rules.specs.declared.live_buffer.LiveBuffer.{LiveBuffer}
use Rattle.ray_rules.specs.declared.byte_range.ByteRange.{ByteRange}
use Rattle.ray_rules.specs.Ids.{Ids, look}

-- so many bytes of a buffer from an offset on
abbrev pub range : ℕ → ℕ → ℕ → ByteRange
range buffer from size = record { buffer = buffer; from = from; size = size }

-- how many bytes a buffer has: none where it isn't live
abbrev pub size_at : Ids LiveBuffer → ℕ → ℕ
size_at buffers id = option_map_or (λ (b : LiveBuffer). b.size) (look buffers id) 0

-- whether a range isn't whole within its buffer. An empty one has to begin within it, or at its end
abbrev pub is_outside : Ids LiveBuffer → ByteRange → Bool
is_outside buffers r = nat_lt (size_at buffers r.buffer) (r.from + r.size)

-- whether a range is there, and isn't whole within its buffer
abbrev pub is_outside_if : Ids LiveBuffer → Option ByteRange → Bool
is_outside_if buffers r = option_map_or (is_outside buffers) r false

-- the place of a range in its buffer
abbrev pub place_of : ByteRange → Place
place_of r = record { space = r.buffer; from = r.from; size = r.size }

-- whether two ranges share a byte: they are in one buffer, where their bytes meet
abbrev pub meets : ByteRange → ByteRange → Bool
meets r s = overlaps (place_of r) (place_of s)

-- how many primitives a geometry has
abbrev pub count_of : Geometry → ℕ
count_of (geometries.Triangles opaque format vertex stride max_vertex index transform count primitive_offset first_vertex transform_offset) = count
count_of (geometries.Boxes opaque content stride count primitive_offset) = count
count_of (geometries.Instances content count primitive_offset) = count

-- how many primitives geometries have together
abbrev pub primitives : List Geometry → ℕ
primitives gs = sum_by count_of gs

-- the indices of so many triangles
abbrev pub index_range : Index → ℕ → ℕ → ByteRange
index_range index primitive_offset count =
    range index.buffer (index.offset + primitive_offset) (3 * count * index.index_size)

-- the transform of a geometry: three rows of four numbers
abbrev pub transform_range : ℕ → Spot → ByteRange
transform_range transform_offset spot = range spot.buffer (spot.offset + transform_offset) 48

-- one vertex, counted from the place of the vertices
abbrev pub vertex_range : Spot → ℕ → Format → ℕ → ByteRange
vertex_range vertex stride format number = range vertex.buffer (vertex.offset + number * stride) (vertex_size format)

-- the vertices of so many triangles without indices: from the first byte of the first to the last
-- byte of the last
abbrev pub vertices_range : Spot → ℕ → Format → ℕ → ℕ → ℕ → ByteRange
vertices_range vertex stride format primitive_offset first_vertex count =
    range vertex.buffer (vertex.offset + primitive_offset + first_vertex * stride)
    ((3 * count - 1) * stride + vertex_size format)

-- a range, cut at the end of its buffer
abbrev pub cut : Ids LiveBuffer → ByteRange → ByteRange
cut buffers r = record r { size = min r.size (size_at buffers r.buffer - r.from) }

-- the vertices that indices may name: from number `first_vertex` to the end of number
-- `first_vertex + max_vertex`
abbrev pub named_range : Spot → ℕ → Format → ℕ → ℕ → ByteRange
named_range vertex stride format first_vertex max_vertex =
    range vertex.buffer (vertex.offset + first_vertex * stride) (max_vertex * stride + vertex_size format)

-- the same, cut at the end of the buffer
abbrev pub indexed_range : Ids LiveBuffer → Spot → ℕ → Format → ℕ → ℕ → ByteRange
indexed_range buffers vertex stride format first_vertex max_vertex =
    cut buffers (named_range vertex stride format first_vertex max_vertex)

-- the boxes of a geometry: from the first byte of the first to the last byte of the last
abbrev pub boxes_range : Spot → ℕ → ℕ → ℕ → ByteRange
boxes_range content stride count primitive_offset =
    range content.buffer (content.offset + primitive_offset) ((count - 1) * stride + 24)

-- the instances of a geometry
abbrev pub instances_range : Spot → ℕ → ℕ → ByteRange
instances_range content count primitive_offset =
    range content.buffer (content.offset + primitive_offset) (64 * count)

-- the vertices that triangles read, with or without indices
abbrev pub vertices_read : Ids LiveBuffer → Spot → ℕ → Format → ℕ → Option Index → ℕ → ℕ → ℕ → ByteRange
vertices_read buffers vertex stride format max_vertex None count primitive_offset first_vertex =
    vertices_range vertex stride format primitive_offset first_vertex count
vertices_read buffers vertex stride format max_vertex (Some index) count primitive_offset first_vertex =
    indexed_range buffers vertex stride format first_vertex max_vertex

-- the vertices that have to be there: all that are read without indices, and with indices the
-- greatest that an index may name
abbrev pub vertices_needed : Spot → ℕ → Format → ℕ → Option Index → ℕ → ℕ → ℕ → ByteRange
vertices_needed vertex stride format max_vertex None count primitive_offset first_vertex =
    vertices_range vertex stride format primitive_offset first_vertex count
vertices_needed vertex stride format max_vertex (Some index) count primitive_offset first_vertex =
    vertex_range vertex stride format max_vertex

-- the vertices of a geometry, by a word on triangles: none of one of boxes or instances
abbrev pub vertices_by : (Spot → ℕ → Format → ℕ → Option Index → ℕ → ℕ → ℕ → ByteRange) → Geometry → Option ByteRange
vertices_by of_triangles (geometries.Triangles opaque format vertex stride max_vertex index transform count primitive_offset first_vertex transform_offset) =
    Some (of_triangles vertex stride format max_vertex index count primitive_offset first_vertex)
vertices_by of_triangles _ = None

-- the bytes of a geometry, given its vertices: vertices, boxes or instances; indices; the transform. A geometry
-- of no primitives has none
unfoldable pub inputs_with : Option ByteRange → Geometry → List (Option ByteRange)
inputs_with vertices (geometries.Triangles opaque format vertex stride max_vertex index transform count primitive_offset first_vertex transform_offset) =
    if count == 0 then None ∷ None ∷ None ∷ [] else
    vertices
    ∷ option_map (λ x. index_range x primitive_offset count) index
    ∷ option_map (transform_range transform_offset) transform
    ∷ []
inputs_with vertices (geometries.Boxes opaque content stride count primitive_offset) =
    (if count == 0 then None else Some (boxes_range content stride count primitive_offset)) ∷ None ∷ None ∷ []
inputs_with vertices (geometries.Instances content count primitive_offset) =
    (if count == 0 then None else Some (instances_range content count primitive_offset)) ∷ None ∷ None ∷ []

-- what a geometry reads
unfoldable pub inputs_read : Ids LiveBuffer → Geometry → List (Option ByteRange)
inputs_read buffers g = inputs_with (vertices_by (vertices_read buffers) g) g

-- what has to be there of what a geometry reads
unfoldable pub inputs_needed : Geometry → List (Option ByteRange)
inputs_needed g = inputs_with (vertices_by vertices_needed g) g

-- the scratch memory that a build or an update of so many primitives takes
abbrev pub scratch_size : BuildMode → ℕ → ℕ
scratch_size modes.Build n = build_scratch_size n
scratch_size modes.Update n = update_scratch_size n

-- the scratch memory of an info
abbrev pub scratch_range : Info → ByteRange
scratch_range info = range info.scratch.buffer info.scratch.offset (scratch_size info.mode (primitives info.geometries))
