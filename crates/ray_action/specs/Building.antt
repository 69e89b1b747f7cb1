-- What a build makes of the bytes of its geometries. (Vulkan, "Acceleration Structures": builds and
-- updates; how bytes are read stands in ray_primitives, ray_bottom and ray_top.)
--
-- A geometry is read from the bytes of its ranges alone. The range of vertices begins at the first vertex
-- that may be named, and that of indices, boxes and instances at the first; so each is read from place 0
-- on, with no first vertex to be skipped. The range of vertices that indices name is cut at the buffer's
-- end: what isn't whole in it isn't whole in the buffer, since no index above `max_vertex` may name one.
use Rattle.std.specs.Prelude.{ℕ, List, [], ◌∷◌, map, Option, Some, None, Result, Ok, Err, Bool, ◌==◌}
use Rattle.std.specs.Option.{option_map, option_and_then}
use Rattle.ray_flags.specs.declared.build_flags.BuildFlags.{BuildFlags}
use Rattle.ray_bytes.specs.declared.data_fault.DataFault.{DataFault}
use Rattle.ray_bytes.specs.declared.format.Format.{Format}
use Rattle.ray_bytes.specs.Views as views
use Rattle.ray_primitives.specs.declared.triangle_info.TriangleInfo.{TriangleInfo}
use Rattle.ray_geometries.specs.Contents as bottoms
use Rattle.ray_bottom.specs.Builders.{BuilderValue, with_triangles, with_boxes, size_of_indices}
use Rattle.ray_top.specs.declared.used.Used.{Used}
use Rattle.ray_top.specs.Contents as tops
use Rattle.ray_cmd.specs.declared.geometry.Geometry.{Geometry}
use Rattle.ray_cmd.specs.declared.geometry.Geometry.TheVariants as geometries
use Rattle.ray_cmd.specs.declared.index.Index.{Index}
use Rattle.ray_rules.specs.Ranges.{count_of}
use Rattle.ray_action.specs.Memory.{bounds_of}
use Rattle.ray_action.specs.Seeing.{SeenBytes, SeenGeometry, SeenStructures}

-- ---- one geometry

-- the bytes of a range that is there; of none, and of one of which a byte is missing, no bytes
abbrev pub bytes_of : Option SeenBytes → List ℕ
bytes_of None = []
bytes_of (Some None) = []
bytes_of (Some (Some bytes)) = bytes

-- how triangles are read from their ranges
abbrev pub triangle_info : Bool → Format → ℕ → Option views.Indices → ℕ → TriangleInfo
triangle_info opaque format max_vertex indices count = record {
  opaque = opaque;
  format = format;
  index_size = size_of_indices indices;
  count = count;
  first_vertex = 0;
  max_vertex = max_vertex;
}

abbrev pub vertices_in : Format → ℕ → Option SeenBytes → views.Vertices
vertices_in format stride seen = record { bytes = bytes_of seen; start = 0; stride = stride; format = format }

abbrev pub indices_in : Option SeenBytes → Index → views.Indices
indices_in seen index = record { bytes = bytes_of seen; start = 0; wide = index.index_size == 4 }

abbrev pub transform_in : Option SeenBytes → Option (List ℕ)
transform_in None = None
transform_in (Some seen) = Some (bytes_of (Some seen))

abbrev pub boxes_in : ℕ → Option SeenBytes → views.Boxes
boxes_in stride seen = record { bytes = bytes_of seen; start = 0; stride = stride }

abbrev pub instances_in : Option SeenBytes → views.Row
instances_in seen = record { bytes = bytes_of seen; start = 0 }

-- a builder with one geometry more, read from the bytes of its three ranges, or the first rule that is
-- broken: a bottom structure has no instances
abbrev pub add_read : BuilderValue → Geometry → Option SeenBytes → Option SeenBytes → Option SeenBytes → Result BuilderValue DataFault
add_read b (geometries.Triangles opaque format vertex stride max_vertex index transform count primitive_offset first_vertex transform_offset) content indices matrix =
    with_triangles b (triangle_info opaque format max_vertex (option_map (indices_in indices) index) count)
    (vertices_in format stride content) (option_map (indices_in indices) index) (transform_in matrix)
add_read b (geometries.Boxes opaque at stride count primitive_offset) content indices matrix =
    with_boxes b (record { opaque = opaque; count = count }) (boxes_in stride content)
add_read b (geometries.Instances at count primitive_offset) content indices matrix = Ok b

-- the first, second and third of the ranges of a geometry
abbrev pub add_inputs : BuilderValue → Geometry → List (Option SeenBytes) → Result BuilderValue DataFault
add_inputs b geometry (content ∷ (indices ∷ (matrix ∷ []))) = add_read b geometry content indices matrix
add_inputs b geometry _ = Ok b

-- ---- all geometries

-- and so on with the geometries that are left, or the first rule that is broken
abbrev pub then_add : Result BuilderValue DataFault → (BuilderValue → Result BuilderValue DataFault) → Result BuilderValue DataFault
then_add (Ok b) rest = rest b
then_add (Err fault) rest = Err fault

abbrev pub add_all : List Geometry → List SeenGeometry → BuilderValue → Result BuilderValue DataFault
add_all [] seen b = Ok b
add_all (geometry ∷ geometries) [] b = Ok b
add_all (geometry ∷ geometries) (g ∷ seen) b = then_add (add_inputs b geometry g.inputs) (add_all geometries seen)

-- a builder of a new structure, and one of an update
abbrev pub new_builder : BuildFlags → BuilderValue
new_builder flags = record { contents = record { flags = flags; geometries = [] }; replaced = None }

abbrev pub update_builder : bottoms.ContentsValue → BuilderValue
update_builder old = record { contents = record { flags = old.flags; geometries = [] }; replaced = Some old }

-- ---- the structures in use

-- a structure that instances may refer to, with its bounds as they are
abbrev pub used_of : SeenStructures → ℕ → Used
used_of seen id = record { id = id; bounds = option_and_then bounds_of (seen id) }

abbrev pub all_used : SeenStructures → List ℕ → List Used
all_used seen ids = map (used_of seen) ids

-- the content of the one geometry of a top structure
abbrev pub first_input : List (Option SeenBytes) → Option SeenBytes
first_input [] = None
first_input (content ∷ rest) = content

-- a new top structure, and an update of one
abbrev pub top_of : BuildFlags → List Used → Geometry → SeenGeometry → Result tops.TopValue DataFault
top_of flags used instances seen = tops.top_built flags used (instances_in (first_input seen.inputs)) (count_of instances)

abbrev pub top_again : tops.TopValue → List Used → Geometry → SeenGeometry → Result tops.TopValue DataFault
top_again old used instances seen = tops.top_updated old used (instances_in (first_input seen.inputs)) (count_of instances)
