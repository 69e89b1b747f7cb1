-- What a geometry reads, where the size of the buffer of its content is given. (Own.)
use Rattle.std.specs.Prelude.{ℕ, ◌-◌, List, Option, Some, None, min}
use Rattle.ray_bytes.specs.declared.format.Format.{Format}
use Rattle.ray_cmd.specs.declared.geometry.Geometry.{Geometry}
use Rattle.ray_cmd.specs.declared.index.Index.{Index}
use Rattle.ray_cmd.specs.declared.spot.Spot.{Spot}
use Rattle.ray_rules.specs.declared.byte_range.ByteRange.{ByteRange}
use Rattle.ray_rules.specs.Ranges.{inputs_with, named_range, vertices_by, vertices_range}

-- a range, cut at a size
abbrev pub cut_at : ℕ → ByteRange → ByteRange
cut_at size r = record r { size = min r.size (size - r.from) }

-- the vertices that triangles read, with or without indices
abbrev pub vertices_with : ℕ → Spot → ℕ → Format → ℕ → Option Index → ℕ → ℕ → ℕ → ByteRange
vertices_with size vertex stride format max_vertex None count primitive_offset first_vertex =
    vertices_range vertex stride format primitive_offset first_vertex count
vertices_with size vertex stride format max_vertex (Some index) count primitive_offset first_vertex =
    cut_at size (named_range vertex stride format first_vertex max_vertex)

-- what a geometry reads: vertices, boxes or instances; indices; the transform
unfoldable pub ranges_with : ℕ → Geometry → List (Option ByteRange)
ranges_with size g = inputs_with (vertices_by (vertices_with size) g) g
