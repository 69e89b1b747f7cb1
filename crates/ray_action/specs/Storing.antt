-- What an action writes, and what its store leaves. (Own; after the memory that each command of Vulkan
-- writes.)
use Rattle.std.specs.Prelude.{ℕ, ◌-◌, ◌%◌, List, Option, Some, None, Bool, false, ◌==◌, nat_lt, if◌then◌else◌, slice_get, unwrap_or}
use Rattle.std.specs.Option.{option_map}
use Rattle.byteorder.specs.Endian.{little_bytes}
use Rattle.ray_action.specs.declared.form.Form.{Form}
use Rattle.ray_action.specs.Memory.{Contents, Location, ByteAt, BufferAt, StructureAt, ContentsAt, Held, Memory}
use Rattle.ray_action.specs.Areas.{is_in_range, is_contents_of}
use Rattle.ray_action.specs.Action.{Action, MakeBuffer, MakeStructure, DestroyBuffer, DestroyStructure, ShowSizes, ShowBytes, UpdateBytes, FillBytes, CopyBytes, BuildBottom, UpdateBottom, BuildTop, UpdateTop, CopyStructure, SerializeStructure, DeserializeStructure, TellProperty, TraceRays, Rest, Impossible}
use Rattle.ray_action.specs.Clients.{Meaning}
use Rattle.ray_action.specs.Outcomes.{Output, Nothing, Bytes, Holds, Outcome, Gives, Breaks, Undefined, outcome_of}

-- ---- what is written

-- whether a location belongs to a buffer: one of its bytes, or its size
abbrev pub is_of_buffer : ℕ → Location → Bool
is_of_buffer id (ByteAt buffer at) = buffer == id
is_of_buffer id (BufferAt buffer) = buffer == id
is_of_buffer id (StructureAt structure) = false
is_of_buffer id (ContentsAt structure) = false

-- whether a location belongs to a structure: what it is, or what it holds
abbrev pub is_of_structure : ℕ → Location → Bool
is_of_structure id (ByteAt buffer at) = false
is_of_structure id (BufferAt buffer) = false
is_of_structure id (StructureAt structure) = structure == id
is_of_structure id (ContentsAt structure) = structure == id

-- whether an action writes a location
abbrev pub writes : Action → Location → Bool
writes (MakeBuffer id size content) l = is_of_buffer id l
writes (MakeStructure id form) l = is_of_structure id l
writes (DestroyBuffer id) l = is_of_buffer id l
writes (DestroyStructure id) l = is_of_structure id l
writes (ShowSizes kind counts) l = false
writes (ShowBytes from form) l = false
writes (UpdateBytes to content) l = is_in_range to l
writes (FillBytes to value) l = is_in_range to l
writes (CopyBytes from to) l = is_in_range to l
writes (BuildBottom build flags geometries) l = is_contents_of build.dst l
writes (UpdateBottom build src geometries) l = is_contents_of build.dst l
writes (BuildTop build flags uses instances) l = is_contents_of build.dst l
writes (UpdateTop build src uses instances) l = is_contents_of build.dst l
writes (CopyStructure mode src dst) l = is_contents_of dst l
writes (SerializeStructure src to form) l = is_in_range to l
writes (DeserializeStructure from dst uses) l = is_contents_of dst l
writes (TellProperty what structures to) l = is_in_range to l
writes (TraceRays trace) l = is_in_range trace.hits l
writes Rest l = false
writes Impossible l = false

-- ---- what is left there

-- what a byte of a new buffer holds: the content, and then zeros. A buffer without content keeps no bytes
abbrev pub fresh_byte : ℕ → Option (List ℕ) → ℕ → Option ℕ
fresh_byte size None at = None
fresh_byte size (Some content) at = if nat_lt at size then Some (unwrap_or (slice_get content at) 0) else None

-- what a location of a new buffer holds
abbrev pub fresh : ℕ → Option (List ℕ) → (l : Location) → Held l → Held l
fresh size content (ByteAt buffer at) old = fresh_byte size content at
fresh size content (BufferAt id) old = Some size
fresh size content (StructureAt id) old = old
fresh size content (ContentsAt id) old = old

-- what a location of a new structure holds: it isn't built
abbrev pub made : Form → (l : Location) → Held l → Held l
made form (ByteAt buffer at) old = old
made form (BufferAt id) old = old
made form (StructureAt id) old = Some form
made form (ContentsAt id) old = None

-- what a location of what is destroyed holds
abbrev pub gone : (l : Location) → Held l → Held l
gone (ByteAt buffer at) old = None
gone (BufferAt id) old = None
gone (StructureAt id) old = None
gone (ContentsAt id) old = None

-- what a byte holds once these are written from a place on: the byte for it, where it is there
abbrev pub stored : ℕ → List ℕ → (l : Location) → Held l → Held l
stored from bytes (ByteAt buffer at) old = option_map (λ byte. unwrap_or (slice_get bytes (at - from)) byte) old
stored from bytes (BufferAt id) old = old
stored from bytes (StructureAt id) old = old
stored from bytes (ContentsAt id) old = old

-- what a byte holds once a word of 32 bits is written again and again from a place on, little-endian
abbrev pub filled : ℕ → ℕ → (l : Location) → Held l → Held l
filled from value (ByteAt buffer at) old =
    option_map (λ byte. unwrap_or (slice_get (little_bytes 4 value) ((at - from) % 4)) byte) old
filled from value (BufferAt id) old = old
filled from value (StructureAt id) old = old
filled from value (ContentsAt id) old = old

-- what a structure holds once it is built
abbrev pub holding : Contents → (l : Location) → Held l → Held l
holding contents (ByteAt buffer at) old = old
holding contents (BufferAt id) old = old
holding contents (StructureAt id) old = old
holding contents (ContentsAt id) old = Some contents

-- what a byte holds once an output is stored from a place on
abbrev pub bytes_left : ℕ → Output → (l : Location) → Held l → Held l
bytes_left from Nothing l old = old
bytes_left from (Bytes bytes) l old = stored from bytes l old
bytes_left from (Holds contents) l old = old

-- what a structure holds once an output is stored
abbrev pub contents_left : Output → (l : Location) → Held l → Held l
contents_left Nothing l old = old
contents_left (Bytes bytes) l old = old
contents_left (Holds contents) l old = holding contents l old

-- what a location that an action writes holds once its output is stored
abbrev pub written : Action → Output → (l : Location) → Held l → Held l
written (MakeBuffer id size content) output l old = fresh size content l old
written (MakeStructure id form) output l old = made form l old
written (DestroyBuffer id) output l old = gone l old
written (DestroyStructure id) output l old = gone l old
written (ShowSizes kind counts) output l old = old
written (ShowBytes from form) output l old = old
written (UpdateBytes to content) output l old = stored to.from content l old
written (FillBytes to value) output l old = filled to.from value l old
written (CopyBytes from to) output l old = bytes_left to.from output l old
written (BuildBottom build flags geometries) output l old = contents_left output l old
written (UpdateBottom build src geometries) output l old = contents_left output l old
written (BuildTop build flags uses instances) output l old = contents_left output l old
written (UpdateTop build src uses instances) output l old = contents_left output l old
written (CopyStructure mode src dst) output l old = contents_left output l old
written (SerializeStructure src to form) output l old = bytes_left to.from output l old
written (DeserializeStructure from dst uses) output l old = contents_left output l old
written (TellProperty what structures to) output l old = bytes_left to.from output l old
written (TraceRays trace) output l old = bytes_left trace.hits.from output l old
written Rest output l old = old
written Impossible output l old = old

-- the same of an outcome: a fault stores nothing
abbrev pub left : Action → Outcome → (l : Location) → Held l → Held l
left action (Gives output) l old = written action output l old
left action (Breaks fault) l old = old
left action Undefined l old = old

-- the memory once an outcome is stored: what the action writes is changed, and all else is as before
abbrev pub put : Action → Outcome → Memory → Memory
put action outcome memory l = if writes action l then left action outcome l (memory l) else memory l

-- the memory after an action, where a client of this meaning decides
abbrev pub after : Meaning → Action → Memory → Memory
after meaning action memory = put action (outcome_of meaning action memory) memory
