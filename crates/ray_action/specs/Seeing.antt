-- What each action sees of the memory. It computes from that alone, so that its outcome is told by what it
-- reads and by nothing else. (Own.)
use Rattle.std.specs.Prelude.{ℕ, List, map, Option, None, if◌then◌else◌}
use Rattle.std.specs.Option.{option_map}
use Rattle.ray_cmd.specs.declared.geometry.Geometry.{Geometry}
use Rattle.ray_rules.specs.declared.byte_range.ByteRange.{ByteRange}
use Rattle.ray_rules.specs.declared.live_buffer.LiveBuffer.{LiveBuffer}
use Rattle.ray_rules.specs.Ids.{Ids}
use Rattle.ray_rules.specs.Ranges.{inputs_read}
use Rattle.ray_action.specs.declared.form.Form.{Form}
use Rattle.ray_action.specs.Memory.{Contents, Memory, BufferAt, StructureAt, ContentsAt, bytes_at}
use Rattle.ray_action.specs.Areas.{has}
use Rattle.ray_action.specs.Action.{Action, MakeBuffer, MakeStructure, DestroyBuffer, DestroyStructure, ShowSizes, ShowBytes, UpdateBytes, FillBytes, CopyBytes, BuildBottom, UpdateBottom, BuildTop, UpdateTop, CopyStructure, SerializeStructure, DeserializeStructure, TellProperty, TraceRays, Rest, Impossible, content_buffer}

-- the bytes of a range: none where one of them is missing
abbrev pub SeenBytes : Type 0
SeenBytes = Option (List ℕ)

-- what is seen of a geometry: the size of the buffer of its vertices, boxes or instances, and the bytes of
-- each of its ranges that is there
pub record SeenGeometry : Type 0 where
  pub size : Option ℕ
  pub inputs : List (Option SeenBytes)

-- what the structures of some ids hold: none of any other is seen
abbrev pub SeenStructures : Type 0
SeenStructures = ℕ → Option Contents

-- a structure as it is asked for a number: what it is, and what it holds
pub record SeenStructure : Type 0 where
  pub form : Option Form
  pub contents : Option Contents

abbrev pub see_range : Memory → Option ByteRange → Option SeenBytes
see_range memory r = option_map (bytes_at memory) r

abbrev pub see_geometry : Memory → Ids LiveBuffer → Geometry → SeenGeometry
see_geometry memory buffers geometry = record {
  size = memory (BufferAt (content_buffer geometry));
  inputs = map (see_range memory) (inputs_read buffers geometry);
}

abbrev pub see_structures : Memory → List ℕ → SeenStructures
see_structures memory ids id = if has ids id then memory (ContentsAt id) else None

abbrev pub see_structure : Memory → ℕ → SeenStructure
see_structure memory id = record { form = memory (StructureAt id); contents = memory (ContentsAt id) }

-- what a build sees: what its destination is, and its geometries
pub record SeenBuild : Type 0 where
  pub dst : Option Form
  pub geometries : List SeenGeometry

-- what the build of a top structure sees: what its destination is, the structures in use, and its
-- instances
pub record SeenTop : Type 0 where
  pub dst : Option Form
  pub uses : SeenStructures
  pub instances : SeenGeometry

-- what the making of a structure from serialized bytes sees: the bytes, what its destination is, and the
-- structures that its instances may refer to
pub record SeenSerialized : Type 0 where
  pub bytes : SeenBytes
  pub dst : Option Form
  pub uses : SeenStructures

-- what a trace sees: its rays, its top structure, and those that instances may refer to
pub record SeenTrace : Type 0 where
  pub rays : SeenBytes
  pub top : Option Contents
  pub uses : SeenStructures

-- what an action sees
abbrev pub Seen : Action → Type 0
Seen (MakeBuffer id size content) = Option ℕ
Seen (MakeStructure id form) = Option Form
Seen (DestroyBuffer id) = Unit {0}
Seen (DestroyStructure id) = Unit {0}
Seen (ShowSizes kind counts) = Unit {0}
Seen (ShowBytes from form) = SeenBytes
Seen (UpdateBytes to content) = Unit {0}
Seen (FillBytes to value) = Unit {0}
Seen (CopyBytes from to) = SeenBytes
Seen (BuildBottom build flags geometries) = SeenBuild
Seen (UpdateBottom build src geometries) = Option Contents × SeenBuild
Seen (BuildTop build flags uses instances) = SeenTop
Seen (UpdateTop build src uses instances) = Option Contents × SeenTop
Seen (CopyStructure mode src dst) = Option Contents × Option Form
Seen (SerializeStructure src to form) = Option Contents
Seen (DeserializeStructure from dst uses) = SeenSerialized
Seen (TellProperty what structures to) = List SeenStructure
Seen (TraceRays trace) = SeenTrace
Seen Rest = Unit {0}
Seen Impossible = Unit {0}

-- what an action sees of a memory
abbrev pub see : (action : Action) → Memory → Seen action
see (MakeBuffer id size content) memory = memory (BufferAt id)
see (MakeStructure id form) memory = memory (StructureAt id)
see (DestroyBuffer id) memory = tt
see (DestroyStructure id) memory = tt
see (ShowSizes kind counts) memory = tt
see (ShowBytes from form) memory = bytes_at memory from
see (UpdateBytes to content) memory = tt
see (FillBytes to value) memory = tt
see (CopyBytes from to) memory = bytes_at memory from
see (BuildBottom build flags geometries) memory =
    record { dst = memory (StructureAt build.dst); geometries = map (see_geometry memory build.buffers) geometries }
see (UpdateBottom build src geometries) memory = (
  memory (ContentsAt src),
  record { dst = memory (StructureAt build.dst); geometries = map (see_geometry memory build.buffers) geometries },
)
see (BuildTop build flags uses instances) memory = record {
  dst = memory (StructureAt build.dst);
  uses = see_structures memory uses;
  instances = see_geometry memory build.buffers instances;
}
see (UpdateTop build src uses instances) memory = (
  memory (ContentsAt src),
  record {
    dst = memory (StructureAt build.dst);
    uses = see_structures memory uses;
    instances = see_geometry memory build.buffers instances;
  },
)
see (CopyStructure mode src dst) memory = (memory (ContentsAt src), memory (StructureAt dst))
see (SerializeStructure src to form) memory = memory (ContentsAt src)
see (DeserializeStructure from dst uses) memory = record {
  bytes = bytes_at memory from;
  dst = memory (StructureAt dst);
  uses = see_structures memory uses;
}
see (TellProperty what structures to) memory = map (see_structure memory) structures
see (TraceRays trace) memory = record {
  rays = bytes_at memory trace.rays;
  top = memory (ContentsAt trace.top);
  uses = see_structures memory trace.uses;
}
see Rest memory = tt
see Impossible memory = tt
