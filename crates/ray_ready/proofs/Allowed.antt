-- What the rules say of an action, in relational words over the status: no other consequence of them is used.
use Rattle.std.proofs.Common.{◌≡◌, ℕ, true, false, List, [], ◌∷◌, Option, Some, None, IsSome, IfSome}
use Rattle.ray_flags.specs.Admission.{AsksBoth}
use Rattle.ray_geometries.specs.Contents as bottoms
use Rattle.ray_top.specs.Contents as tops
use Rattle.ray_cmd.specs.declared.asked.Asked.{Asked}
use Rattle.ray_cmd.specs.declared.asked.Asked.TheVariants as asked
use Rattle.ray_cmd.specs.declared.command.Command.{Command}
use Rattle.ray_cmd.specs.declared.copy_mode.CopyMode.{CopyMode}
use Rattle.ray_cmd.specs.declared.copy_mode.CopyMode.TheVariants as copies
use Rattle.ray_cmd.specs.declared.geometry.Geometry.{Geometry}
use Rattle.ray_cmd.specs.declared.info.Info.{Info}
use Rattle.ray_cmd.specs.declared.structure_kind.StructureKind.{StructureKind}
use Rattle.ray_cmd.specs.declared.structure_kind.StructureKind.TheVariants as kinds
use Rattle.ray_rules.specs.declared.built.Built.{Built}
use Rattle.ray_rules.specs.declared.byte_range.ByteRange.{ByteRange}
use Rattle.ray_rules.specs.declared.live_buffer.LiveBuffer.{LiveBuffer}
use Rattle.ray_rules.specs.declared.live_structure.LiveStructure.{LiveStructure}
use Rattle.ray_rules.specs.Ids.{Ids, look}
use Rattle.ray_rules.specs.Origins.{info_of, is_deserialized, uses_of}
use Rattle.ray_rules.specs.Ranges.{count_of, inputs_read, primitives}
use Rattle.ray_rules.specs.Status.{Status}
use Rattle.ray_rules.specs.Within.{AreInBuffers, IsInBuffer}
use Rattle.ray_action.specs.Areas.{has}
use Rattle.ray_action.specs.Action.{Action, Building, Tracing, MakeBuffer, MakeStructure, DestroyBuffer, DestroyStructure, ShowSizes, ShowBytes, UpdateBytes, FillBytes, CopyBytes, BuildBottom, UpdateBottom, BuildTop, UpdateTop, CopyStructure, SerializeStructure, DeserializeStructure, TellProperty, TraceRays, Rest, Impossible, content_buffer}
use Rattle.ray_action.specs.Readiness.{AreCounts, AreOfBottom, IsOfTop}
use Rattle.ray_ready.proofs.Ties.{IsBuilt, IsFresh, keeps_bytes_at}

-- a structure is live, and of a kind
pub record IsLiveOf (kind : StructureKind) (found : Option LiveStructure) : Type 0 where
  pub structure : LiveStructure
  pub is_it : found ≡ Some structure
  pub same_kind : structure.kind ≡ kind

-- it is built as well
pub record IsBuiltOf (kind : StructureKind) (found : Option LiveStructure) : Type 0 where
  pub by : Built
  pub built : IsBuilt found kind by

-- it is built, and of some kind
pub record IsBuiltAny (found : Option LiveStructure) : Type 0 where
  pub kind : StructureKind
  pub built : IsBuiltOf kind found

-- a range is in its buffer, which keeps its bytes
abbrev pub IsKeptIn : Ids LiveBuffer → ByteRange → Type 0
IsKeptIn buffers r = IsInBuffer buffers r × (keeps_bytes_at buffers r.buffer ≡ true)

-- the buffers of ranges keep their bytes
abbrev pub AreKeptIn : Ids LiveBuffer → List (Option ByteRange) → Type 0
AreKeptIn buffers [] = Unit {0}
AreKeptIn buffers (r ∷ rs) = IfSome r (λ (range : ByteRange). keeps_bytes_at buffers range.buffer ≡ true) × AreKeptIn buffers rs

-- what a geometry reads is there, and the buffer of its content is live
pub record IsReadable (buffers : Ids LiveBuffer) (g : Geometry) : Type 0 where
  pub live : IsSome (look buffers (content_buffer g))
  pub within : AreInBuffers buffers (inputs_read buffers g)
  pub kept : AreKeptIn buffers (inputs_read buffers g)

abbrev pub AreReadable : Ids LiveBuffer → List Geometry → Type 0
AreReadable buffers [] = Unit {0}
AreReadable buffers (g ∷ gs) = IsReadable buffers g × AreReadable buffers gs

-- ---- builds

pub record MayBuildBottom (z : Status) (build : Building) (gs : List Geometry) : Type 0 where
  pub dst : IsLiveOf kinds.Bottom (look z.structures build.dst)
  pub buffers : z.buffers ≡ build.buffers
  pub limits : AreOfBottom gs
  pub readable : AreReadable build.buffers gs

pub record MayBuildTop (rec : List Command) (z : Status) (build : Building) (uses : List ℕ) (instances : Geometry) : Type 0 where
  pub dst : IsLiveOf kinds.Top (look z.structures build.dst)
  pub buffers : z.buffers ≡ build.buffers
  pub limits : IsOfTop instances
  pub are_built : (u : ℕ) → has uses u ≡ true → IsBuiltOf kinds.Bottom (look z.structures u)
  pub readable : IsReadable build.buffers instances

-- a top of as many instances is there, which an info built
pub record IsSource (rec : List Command) (z : Status) (src : ℕ) (instances : Geometry) : Type 0 where
  pub by : Built
  pub built : IsBuilt (look z.structures src) kinds.Top by
  pub own : is_deserialized rec by ≡ false
  pub as_many : (info : Info) → info_of rec by ≡ Some info → count_of instances ≡ primitives info.geometries

-- ---- copies, properties and traces

abbrev pub FitsKind : CopyMode → StructureKind → Type 0
FitsKind copies.Clone kind = Unit {0}
FitsKind copies.Compact kind = kind ≡ kinds.Bottom

pub record MayCopy (z : Status) (mode : CopyMode) (src dst : ℕ) : Type 0 where
  pub kind : StructureKind
  pub source : IsBuiltOf kind (look z.structures src)
  pub target : IsLiveOf kind (look z.structures dst)
  pub fits : FitsKind mode kind

pub record MayDeserialize (z : Status) (from : ByteRange) (dst : ℕ) (uses : List ℕ) : Type 0 where
  pub within : IsKeptIn z.buffers from
  pub live : IsSome (look z.structures dst)
  pub are_built : (u : ℕ) → has uses u ≡ true → IsBuiltOf kinds.Bottom (look z.structures u)

abbrev pub MayTell : Status → Asked → ℕ → Type 0
MayTell z asked.Compacted id = IsBuiltOf kinds.Bottom (look z.structures id)
MayTell z asked.Size id = IsSome (look z.structures id)
MayTell z asked.Serialized id = IsBuiltAny (look z.structures id)
MayTell z asked.SerializedForm2 id = IsBuiltAny (look z.structures id)
MayTell z asked.Handles id = IsBuiltAny (look z.structures id)

abbrev pub MayTellAll : Status → Asked → List ℕ → Type 0
MayTellAll z what [] = Unit {0}
MayTellAll z what (id ∷ ids) = MayTell z what id × MayTellAll z what ids

pub record MayTrace (rec : List Command) (z : Status) (trace : Tracing) : Type 0 where
  pub rays : IsKeptIn z.buffers trace.rays
  pub by : Built
  pub top : IsBuilt (look z.structures trace.top) kinds.Top by
  pub uses : trace.uses ≡ uses_of rec by
  pub fresh : (u : ℕ) → has (uses_of rec by) u ≡ true → IsFresh by.stamp (look z.structures u)
  pub flags : AsksBoth trace.flags → ⊥

-- ---- every action

abbrev pub IsAllowed : List Command → Status → Action → Type 0
IsAllowed rec z (MakeBuffer id size content) = look z.buffers id ≡ None
IsAllowed rec z (MakeStructure id form) = look z.structures id ≡ None
IsAllowed rec z (DestroyBuffer id) = Unit {0}
IsAllowed rec z (DestroyStructure id) = Unit {0}
IsAllowed rec z (ShowSizes kind counts) = AreCounts counts
IsAllowed rec z (ShowBytes from form) = IsKeptIn z.buffers from
IsAllowed rec z (UpdateBytes to content) = Unit {0}
IsAllowed rec z (FillBytes to value) = Unit {0}
IsAllowed rec z (CopyBytes from to) = IsKeptIn z.buffers from
IsAllowed rec z (BuildBottom build flags gs) = MayBuildBottom z build gs × (bottoms.has_both_fast flags ≡ false)
IsAllowed rec z (UpdateBottom build src gs) = IsBuiltOf kinds.Bottom (look z.structures src) × MayBuildBottom z build gs
IsAllowed rec z (BuildTop build flags uses instances) = MayBuildTop rec z build uses instances × (tops.has_both_fast flags ≡ false)
IsAllowed rec z (UpdateTop build src uses instances) = IsSource rec z src instances × MayBuildTop rec z build uses instances
IsAllowed rec z (CopyStructure mode src dst) = MayCopy z mode src dst
IsAllowed rec z (SerializeStructure src to form) = IsBuiltAny (look z.structures src)
IsAllowed rec z (DeserializeStructure from dst uses) = MayDeserialize z from dst uses
IsAllowed rec z (TellProperty what structures to) = MayTellAll z what structures
IsAllowed rec z (TraceRays trace) = MayTrace rec z trace
IsAllowed rec z Rest = Unit {0}
IsAllowed rec z Impossible = ⊥
