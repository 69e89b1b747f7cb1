-- Actions: what is done at one moment, by a host command or by a piece of a device command, with all that
-- the commands before it tell of it. (Vulkan: the operations of each command; own: that one info of a
-- build, one region of a copy and 64 rays of a trace are done at one moment.)
use Rattle.std.specs.Prelude.{ℕ, Option, List, [], ◌∷◌, map}
use Rattle.std.specs.List.{flat_map}
use Rattle.std.specs.Option.{option_to_list}
use Rattle.ray_flags.specs.declared.build_flags.BuildFlags.{BuildFlags}
use Rattle.ray_flags.specs.declared.ray_flags.RayFlags.{RayFlags}
use Rattle.ray_cmd.specs.declared.asked.Asked.{Asked}
use Rattle.ray_cmd.specs.declared.copy_mode.CopyMode.{CopyMode}
use Rattle.ray_cmd.specs.declared.geometry.Geometry.{Geometry}
use Rattle.ray_cmd.specs.declared.geometry.Geometry.TheVariants as geometries
use Rattle.ray_cmd.specs.declared.read_form.ReadForm.{ReadForm}
use Rattle.ray_cmd.specs.declared.structure_kind.StructureKind.{StructureKind}
use Rattle.ray_rules.specs.declared.byte_range.ByteRange.{ByteRange}
use Rattle.ray_rules.specs.declared.live_buffer.LiveBuffer.{LiveBuffer}
use Rattle.ray_rules.specs.Ids.{Ids}
use Rattle.ray_rules.specs.Ranges.{inputs_read}
use Rattle.ray_action.specs.declared.form.Form.{Form}
use Rattle.ray_action.specs.Areas.{Area, Bytes, SizeOf, FormOf, ContentsOf, ContentsOfEach}

-- what a build is: the number of its info, its destination, and the live buffers before its command, of
-- which the sizes tell where vertices are cut
pub record Building : Type 0 where
  pub info : ℕ
  pub dst : ℕ
  pub buffers : Ids LiveBuffer

-- rays that are traced: the top structure, those that its instances may refer to, where the rays and
-- their hits stand, the number of the first ray in its whole trace, how many there are, and how they are
-- traced. Who decides on their candidates is no part of it
pub record Tracing : Type 0 where
  pub top : ℕ
  pub uses : List ℕ
  pub rays : ByteRange
  pub hits : ByteRange
  pub first : ℕ
  pub count : ℕ
  pub flags : RayFlags
  pub mask : ℕ

-- what is done at one moment. `Rest` changes nothing, as a barrier or a `wait`. `Impossible` has no meaning: it
-- is what a command asks for that breaks the static rules, as an update without a source
pub data Action : Type 0 where
  -- by the host: making and destroying, and what is shown
  MakeBuffer : (id size : ℕ) (content : Option (List ℕ)) → Action
  MakeStructure : (id : ℕ) (form : Form) → Action
  DestroyBuffer : (id : ℕ) → Action
  DestroyStructure : (id : ℕ) → Action
  ShowSizes : (kind : StructureKind) (counts : List ℕ) → Action
  ShowBytes : (from : ByteRange) (form : ReadForm) → Action
  -- on bytes of buffers
  UpdateBytes : (to : ByteRange) (content : List ℕ) → Action
  FillBytes : (to : ByteRange) (value : ℕ) → Action
  CopyBytes : (from to : ByteRange) → Action
  -- on structures
  BuildBottom : (build : Building) (flags : BuildFlags) (geometries : List Geometry) → Action
  UpdateBottom : (build : Building) (src : ℕ) (geometries : List Geometry) → Action
  BuildTop : (build : Building) (flags : BuildFlags) (uses : List ℕ) (instances : Geometry) → Action
  UpdateTop : (build : Building) (src : ℕ) (uses : List ℕ) (instances : Geometry) → Action
  CopyStructure : (mode : CopyMode) (src dst : ℕ) → Action
  SerializeStructure : (src : ℕ) (to : ByteRange) (form : Option ℕ) → Action
  DeserializeStructure : (from : ByteRange) (dst : ℕ) (uses : List ℕ) → Action
  TellProperty : (what : Asked) (structures : List ℕ) (to : ByteRange) → Action
  -- rays
  TraceRays : (trace : Tracing) → Action
  Rest : Action
  Impossible : Action

-- the buffer in which the vertices, boxes or instances of a geometry stand
abbrev pub content_buffer : Geometry → ℕ
content_buffer (geometries.Triangles opaque format vertex stride max_vertex index transform count primitive_offset first_vertex transform_offset) =
    vertex.buffer
content_buffer (geometries.Boxes opaque content stride count primitive_offset) = content.buffer
content_buffer (geometries.Instances content count primitive_offset) = content.buffer

-- what is read of a geometry: the size of that buffer, and the ranges of its inputs
abbrev pub geometry_areas : Ids LiveBuffer → Geometry → List Area
geometry_areas buffers geometry =
    SizeOf (content_buffer geometry) ∷ map Bytes (flat_map option_to_list (inputs_read buffers geometry))

-- what is read of a structure of which a number is asked
abbrev pub structure_areas : ℕ → List Area
structure_areas id = FormOf id ∷ (ContentsOf id ∷ [])

-- what an action reads
abbrev pub areas_read : Action → List Area
areas_read (MakeBuffer id size content) = SizeOf id ∷ []
areas_read (MakeStructure id form) = FormOf id ∷ []
areas_read (DestroyBuffer id) = []
areas_read (DestroyStructure id) = []
areas_read (ShowSizes kind counts) = []
areas_read (ShowBytes from form) = Bytes from ∷ []
areas_read (UpdateBytes to content) = []
areas_read (FillBytes to value) = []
areas_read (CopyBytes from to) = Bytes from ∷ []
areas_read (BuildBottom build flags geometries) =
    FormOf build.dst ∷ flat_map (geometry_areas build.buffers) geometries
areas_read (UpdateBottom build src geometries) =
    FormOf build.dst ∷ (ContentsOf src ∷ flat_map (geometry_areas build.buffers) geometries)
areas_read (BuildTop build flags uses instances) =
    FormOf build.dst ∷ (ContentsOfEach uses ∷ geometry_areas build.buffers instances)
areas_read (UpdateTop build src uses instances) =
    FormOf build.dst ∷ (ContentsOf src ∷ (ContentsOfEach uses ∷ geometry_areas build.buffers instances))
areas_read (CopyStructure mode src dst) = ContentsOf src ∷ (FormOf dst ∷ [])
areas_read (SerializeStructure src to form) = ContentsOf src ∷ []
areas_read (DeserializeStructure from dst uses) = Bytes from ∷ (FormOf dst ∷ (ContentsOfEach uses ∷ []))
areas_read (TellProperty what structures to) = flat_map structure_areas structures
areas_read (TraceRays trace) = Bytes trace.rays ∷ (ContentsOf trace.top ∷ (ContentsOfEach trace.uses ∷ []))
areas_read Rest = []
areas_read Impossible = []
