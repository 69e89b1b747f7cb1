-- The recording that builds the scene of a grid and traces its rays, as a JSON value and as its text.
-- Members stand in the rising order of their names, as `serde_json` keeps them. (Own.)
use Rattle.std.specs.Prelude.{ℕ, ◌+◌, ◌*◌, ◌-◌, ◌%◌, ◌==◌, ◌++◌, List, [], ◌∷◌, map, max, codes}
use Rattle.hex.specs.Hex.{encode_lower}
use Rattle.ray_bytes.specs.StructureSizes.{build_scratch_size, structure_size}
use Rattle.ray_scene.specs.Grid.{below, bytes_of, hits_offset, index_offset, input_words, instance_offset, rays_words, triangle_count, vertex_count}
use Rattle.serde_json.specs.Data.{Data, boolean, number, string, array, object, Members, no_members, member, unsigned}
use Rattle.serde_json.specs.View.{items_of}
use Rattle.serde_json.specs.Written.{compact_text}

-- an object of these members
abbrev pub members : List (List ℕ × Data) → Members
members [] = no_members
members (m ∷ ms) = member m.0 m.1 (members ms)

abbrev pub fields : List (List ℕ × Data) → Data
fields ms = object (members ms)

-- a list of these items, a whole number, a word, and the digits of words
abbrev pub list_of : List Data → Data
list_of ds = array (items_of ds)

abbrev pub whole : ℕ → Data
whole n = number (unsigned n)

abbrev pub digits_of : List ℕ → Data
digits_of words = string (encode_lower (bytes_of words))

-- a command that has no members but its name
unfoldable pub plain : List ℕ → Data
plain op = fields ((codes "op", string op) ∷ [])

-- the making of a buffer that begins with words, of one that doesn't, and of a structure
unfoldable pub filled_buffer : ℕ → ℕ → List ℕ → List ℕ → Data
filled_buffer id size usage words = fields (
    (codes "data", digits_of words)
    ∷ (codes "id", whole id)
    ∷ (codes "op", string (codes "buffer"))
    ∷ (codes "size", whole size)
    ∷ (codes "usage", list_of (string usage ∷ []))
    ∷ []
    )

unfoldable pub buffer : ℕ → ℕ → List ℕ → Data
buffer id size usage = fields (
    (codes "id", whole id)
    ∷ (codes "op", string (codes "buffer"))
    ∷ (codes "size", whole size)
    ∷ (codes "usage", list_of (string usage ∷ []))
    ∷ []
    )

unfoldable pub structure : ℕ → List ℕ → ℕ → ℕ → Data
structure id kind offset size = fields (
    (codes "buffer", whole 1)
    ∷ (codes "id", whole id)
    ∷ (codes "kind", string kind)
    ∷ (codes "offset", whole offset)
    ∷ (codes "op", string (codes "structure"))
    ∷ (codes "size", whole size)
    ∷ []
    )

-- a place in a buffer
unfoldable pub place : ℕ → ℕ → Data
place id offset = fields ((codes "buffer", whole id) ∷ (codes "offset", whole offset) ∷ [])

-- the triangles of a layer: opaque in every second one
unfoldable pub triangles : ℕ → ℕ → ℕ → Data
triangles side layers layer = fields (
    (codes "count", whole (triangle_count side))
    ∷ (codes "first_vertex", whole 0)
    ∷ (codes "format", string (codes "s32x3"))
    ∷ (
      codes "index",
      fields (
          (codes "buffer", whole 0)
          ∷ (codes "offset", whole (index_offset side layers))
          ∷ (codes "type", string (codes "u32"))
          ∷ []
          ),
    )
    ∷ (codes "kind", string (codes "triangles"))
    ∷ (codes "max_vertex", whole (vertex_count side - 1))
    ∷ (codes "opaque", boolean (layer % 2 == 0))
    ∷ (codes "primitive_offset", whole 0)
    ∷ (codes "stride", whole 12)
    ∷ (codes "transform_offset", whole 0)
    ∷ (codes "vertex", place 0 (12 * (layer * vertex_count side)))
    ∷ []
    )

-- the build of the bottom structure, of all layers, and that of the top structure, of the instance
unfoldable pub bottom_build : ℕ → ℕ → Data
bottom_build side layers = fields ((
  codes "infos",
  list_of (fields (
      (codes "dst", whole 0)
      ∷ (codes "flags", list_of [])
      ∷ (codes "geometries", list_of (map (triangles side layers) (below layers)))
      ∷ (codes "mode", string (codes "build"))
      ∷ (codes "scratch", place 2 0)
      ∷ []
      ) ∷ []),
)
    ∷ (codes "op", string (codes "build"))
    ∷ []
    )

unfoldable pub instances : ℕ → ℕ → Data
instances side layers = fields (
    (codes "count", whole 1)
    ∷ (codes "data", place 0 (instance_offset side layers))
    ∷ (codes "kind", string (codes "instances"))
    ∷ (codes "primitive_offset", whole 0)
    ∷ []
    )

unfoldable pub top_build : ℕ → ℕ → Data
top_build side layers = fields ((
  codes "infos",
  list_of (fields (
      (codes "dst", whole 1)
      ∷ (codes "flags", list_of [])
      ∷ (codes "geometries", list_of (instances side layers ∷ []))
      ∷ (codes "mode", string (codes "build"))
      ∷ (codes "scratch", place 2 0)
      ∷ (codes "uses", list_of (whole 0 ∷ []))
      ∷ []
      ) ∷ []),
)
    ∷ (codes "op", string (codes "build"))
    ∷ []
    )

-- the barrier between all that is written before and all that comes after, and that to the host
unfoldable pub full_barrier : Data
full_barrier = fields (
    (codes "dst_access", list_of (string (codes "memory_read") ∷ string (codes "memory_write") ∷ []))
    ∷ (codes "dst_stages", list_of (string (codes "all") ∷ []))
    ∷ (codes "op", string (codes "barrier"))
    ∷ (codes "src_access", list_of (string (codes "memory_write") ∷ []))
    ∷ (codes "src_stages", list_of (string (codes "all") ∷ []))
    ∷ []
    )

unfoldable pub host_barrier : Data
host_barrier = fields (
    (codes "dst_access", list_of (string (codes "host_read") ∷ []))
    ∷ (codes "dst_stages", list_of (string (codes "host") ∷ []))
    ∷ (codes "op", string (codes "barrier"))
    ∷ (codes "src_access", list_of (string (codes "memory_write") ∷ []))
    ∷ (codes "src_stages", list_of (string (codes "all") ∷ []))
    ∷ []
    )

-- the trace of the rays, whose script confirms every candidate
unfoldable pub trace : ℕ → Data
trace rays = fields (
    (codes "count", whole rays)
    ∷ (codes "flags", list_of [])
    ∷ (codes "hits", place 3 (hits_offset rays))
    ∷ (codes "mask", whole 255)
    ∷ (codes "op", string (codes "trace"))
    ∷ (codes "rays", place 3 0)
    ∷ (codes "script", list_of (fields ((codes "do", string (codes "confirm")) ∷ []) ∷ []))
    ∷ (codes "top", whole 1)
    ∷ []
    )

-- the read of all hits
unfoldable pub read : ℕ → Data
read rays = fields (
    (codes "buffer", whole 3)
    ∷ (codes "form", string (codes "hits"))
    ∷ (codes "offset", whole (hits_offset rays))
    ∷ (codes "op", string (codes "read"))
    ∷ (codes "size", whole (80 * rays))
    ∷ []
    )

-- the sizes of the bottom structure and of the top structure, of what the builds read, of the rays and
-- hits, and of the scratch memory of the builds
unfoldable pub bottom_size : ℕ → ℕ → ℕ
bottom_size side layers = structure_size layers (layers * triangle_count side)

unfoldable pub top_size : ℕ
top_size = structure_size 1 1

unfoldable pub inputs_size : ℕ → ℕ → ℕ
inputs_size side layers = instance_offset side layers + 64

unfoldable pub rays_size : ℕ → ℕ
rays_size rays = hits_offset rays + 80 * rays

unfoldable pub scratch_size : ℕ → ℕ → ℕ
scratch_size side layers = max (build_scratch_size (layers * triangle_count side)) (build_scratch_size 1)

-- the recording: buffers for what the builds read, for the structures, for scratch memory, and for
-- rays and hits; the two structures; what the device does; and the read of the hits
abbrev pub scene : ℕ → ℕ → ℕ → Data
scene side layers rays = list_of (
    filled_buffer 0 (inputs_size side layers) (codes "input") (input_words side layers)
    ∷ buffer 1 (bottom_size side layers + top_size) (codes "structure")
    ∷ buffer 2 (scratch_size side layers) (codes "scratch")
    ∷ filled_buffer 3 (rays_size rays) (codes "storage") (rays_words side rays)
    ∷ structure 0 (codes "bottom") 0 (bottom_size side layers)
    ∷ structure 1 (codes "top") (bottom_size side layers) top_size
    ∷ plain (codes "begin")
    ∷ bottom_build side layers
    ∷ full_barrier
    ∷ top_build side layers
    ∷ full_barrier
    ∷ trace rays
    ∷ host_barrier
    ∷ plain (codes "end")
    ∷ plain (codes "submit")
    ∷ plain (codes "wait")
    ∷ read rays
    ∷ []
    )

-- its text: compact, and a line's end
unfoldable pub scene_text : ℕ → ℕ → ℕ → List ℕ
scene_text side layers rays = compact_text (scene side layers rays) ++ 10 ∷ []
