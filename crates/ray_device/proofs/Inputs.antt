-- What a geometry reads, by the size of the buffer of its content alone.
use Rattle.std.proofs.Common.{ℕ, ◌≡◌, [], ◌∷◌, Option, Some, None, refl, ap}
use Rattle.std.specs.Prelude.{if◌then◌else◌, option_map, ◌==◌}
use Rattle.ray_bytes.specs.declared.format.Format.{Format}
use Rattle.ray_cmd.specs.declared.geometry.Geometry.{Geometry}
use Rattle.ray_cmd.specs.declared.geometry.Geometry.TheVariants as geometries
use Rattle.ray_cmd.specs.declared.index.Index.{Index}
use Rattle.ray_cmd.specs.declared.spot.Spot.{Spot}
use Rattle.ray_rules.specs.declared.byte_range.ByteRange.{ByteRange}
use Rattle.ray_rules.specs.declared.live_buffer.LiveBuffer.{LiveBuffer}
use Rattle.ray_rules.specs.Ids.{Ids}
use Rattle.ray_rules.specs.Ranges.{inputs_read, inputs_with, size_at, vertices_read, index_range, transform_range}
use Rattle.ray_action.specs.Action.{content_buffer}
use Rattle.ray_device.specs.Ranges.{ranges_with, vertices_with}

vertices-same : (buffers : Ids LiveBuffer) (vertex : Spot) (stride : ℕ) (format : Format) (max_vertex : ℕ) (index : Option Index) (count primitive_offset first_vertex : ℕ)
    → vertices_with (size_at buffers vertex.buffer) vertex stride format max_vertex index count primitive_offset first_vertex
    ≡ vertices_read buffers vertex stride format max_vertex index count primitive_offset first_vertex
vertices-same buffers vertex stride format max_vertex None count primitive_offset first_vertex = refl
vertices-same buffers vertex stride format max_vertex (Some index) count primitive_offset first_vertex = refl

pub ranges_are : (buffers : Ids LiveBuffer) (g : Geometry) → ranges_with (size_at buffers (content_buffer g)) g ≡ inputs_read buffers g
unfolding ranges_with inputs_read inputs_with
ranges_are buffers (geometries.Triangles opaque format vertex stride max_vertex index transform count primitive_offset first_vertex transform_offset) =
    ap (λ (r : ByteRange). if count == 0 then None ∷ None ∷ None ∷ [] else Some r ∷ option_map (λ x. index_range x primitive_offset count) index ∷ option_map (transform_range transform_offset) transform ∷ [])
    (vertices-same buffers vertex stride format max_vertex index count primitive_offset first_vertex)
ranges_are buffers (geometries.Boxes opaque content stride count primitive_offset) = refl
ranges_are buffers (geometries.Instances content count primitive_offset) = refl
