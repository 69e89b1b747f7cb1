-- When an action is ready: what it sees is there, so that what comes of it has a meaning. It is a condition
-- on the memory as it is, and on no history. That each action of a recording that keeps the rules is ready
-- in its turn is a law of its own. (Own; after the valid usage of the commands in Vulkan.)
use Rattle.std.specs.Prelude.{ℕ, ◌≡◌, ◌≤◌, ◌^◌, List, [], ◌∷◌, Option, Some, None, true, false, All, IsSome, IfSome, length, sum}
use Rattle.std.specs.Option.{option_and_then}
use Rattle.ray_flags.specs.Admission.{AsksBoth}
use Rattle.ray_geometries.specs.Contents as bottoms
use Rattle.ray_top.specs.Contents as tops
use Rattle.ray_candidates.specs.Standing.{AreStanding}
use Rattle.ray_cmd.specs.declared.copy_mode.CopyMode.{CopyMode}
use Rattle.ray_cmd.specs.declared.copy_mode.CopyMode.TheVariants as copies
use Rattle.ray_cmd.specs.declared.geometry.Geometry.{Geometry}
use Rattle.ray_cmd.specs.declared.structure_kind.StructureKind.{StructureKind}
use Rattle.ray_cmd.specs.declared.structure_kind.StructureKind.TheVariants as kinds
use Rattle.ray_rules.specs.declared.live_buffer.LiveBuffer.{LiveBuffer}
use Rattle.ray_rules.specs.Ids.{Ids}
use Rattle.ray_rules.specs.Ranges.{size_at, count_of, primitives}
use Rattle.ray_rules.specs.Shapes.{are_of_bottom, is_instances}
use Rattle.ray_action.specs.declared.form.Form.{Form}
use Rattle.ray_action.specs.Memory.{Contents, Memory, kind_of, as_bottom, as_top}
use Rattle.ray_action.specs.Areas.{has}
use Rattle.ray_action.specs.Action.{Action, Building, Tracing, MakeBuffer, MakeStructure, DestroyBuffer, DestroyStructure, ShowSizes, ShowBytes, UpdateBytes, FillBytes, CopyBytes, BuildBottom, UpdateBottom, BuildTop, UpdateTop, CopyStructure, SerializeStructure, DeserializeStructure, TellProperty, TraceRays, Rest, Impossible, content_buffer}
use Rattle.ray_action.specs.Seeing.{Seen, SeenBytes, SeenGeometry, SeenStructures, SeenBuild, SeenSerialized, SeenTop, SeenTrace, see}
use Rattle.ray_action.specs.Outcomes.{numbers_of, bottoms_in}

-- a structure is live, and of a kind
pub record IsMade (of_kind : StructureKind) (found : Option Form) : Type 0 where
  pub form : Form
  pub is_it : found ≡ Some form
  pub same_kind : form.kind ≡ of_kind

-- ---- what builds are of

-- all that is read of a geometry is there, and the size of its buffer is the one that cut its vertices
pub record IsThere (buffers : Ids LiveBuffer) (geometry : Geometry) (seen : SeenGeometry) : Type 0 where
  pub size : seen.size ≡ Some (size_at buffers (content_buffer geometry))
  pub inputs : All (λ (input : Option SeenBytes). IfSome input IsSome) seen.inputs

-- the same of each of several geometries
abbrev pub AreThere : Ids LiveBuffer → List Geometry → List SeenGeometry → Type 0
AreThere buffers [] [] = Unit {0}
AreThere buffers (geometry ∷ geometries) (g ∷ seen) = IsThere buffers geometry g × AreThere buffers geometries seen
AreThere buffers _ _ = ⊥

-- counts of primitives are those of a structure, one a geometry: not too many
pub record AreCounts (counts : List ℕ) : Type 0 where
  pub few : length counts ≤ 256
  pub few_primitives : sum counts ≤ 2 ^ 20

-- geometries are those of a bottom structure: all of triangles or all of boxes, and not too many
pub record AreOfBottom (geometries : List Geometry) : Type 0 where
  pub one_kind : are_of_bottom geometries ≡ true
  pub few : length geometries ≤ 256
  pub few_primitives : primitives geometries ≤ 2 ^ 20

-- a geometry is that of a top structure: instances, and not too many
pub record IsOfTop (instances : Geometry) : Type 0 where
  pub kind : is_instances instances ≡ true
  pub few : count_of instances ≤ 2 ^ 16

-- a build of a bottom structure, new or updated, is ready
pub record IsBottomReady (build : Building) (geometries : List Geometry) (seen : SeenBuild) : Type 0 where
  pub dst : IsMade kinds.Bottom seen.dst
  pub limits : AreOfBottom geometries
  pub there : AreThere build.buffers geometries seen.geometries

-- each structure that instances may refer to is a built bottom structure
abbrev pub AreBottoms : SeenStructures → List ℕ → Type 0
AreBottoms seen ids = (id : ℕ) → has ids id ≡ true → IsSome (option_and_then as_bottom (seen id))

-- a build of a top structure, new or updated, is ready
pub record IsTopReady (build : Building) (ids : List ℕ) (instances : Geometry) (seen : SeenTop) : Type 0 where
  pub dst : IsMade kinds.Top seen.dst
  pub limits : IsOfTop instances
  pub uses : AreBottoms seen.uses ids
  pub there : IsThere build.buffers instances seen.instances

-- what is updated is a bottom structure
abbrev pub IsBottomSource : Option Contents → Type 0
IsBottomSource contents = IsSome (option_and_then as_bottom contents)

-- or a top structure of as many instances
pub record IsTopSource (instances : Geometry) (contents : Option Contents) : Type 0 where
  pub top : tops.TopValue
  pub is_it : option_and_then as_top contents ≡ Some top
  pub as_many : count_of instances ≡ length top.contents.instances

-- ---- copies and traces

-- what is copied is there, and the destination is of its kind
pub record IsCopyReady (contents : Option Contents) (dst : Option Form) : Type 0 where
  pub source : Contents
  pub is_it : contents ≡ Some source
  pub made : IsMade (kind_of source) dst

-- what is copied compactly is a bottom structure
abbrev pub FitsMode : CopyMode → Option Contents → Type 0
FitsMode copies.Clone contents = Unit {0}
FitsMode copies.Compact contents = IsBottomSource contents

-- serialized bytes are there, the destination is live, and each structure that instances may refer to is a
-- built bottom structure
pub record IsDeserializeReady (ids : List ℕ) (seen : SeenSerialized) : Type 0 where
  pub bytes : IsSome seen.bytes
  pub dst : IsSome seen.dst
  pub uses : AreBottoms seen.uses ids

-- rays and a top structure are there, with the structures of its active instances as they were; and the
-- flags don't ask that everything counts as opaque and that nothing does
pub record IsTraceReady (trace : Tracing) (seen : SeenTrace) : Type 0 where
  pub rays : IsSome seen.rays
  pub top : tops.TopValue
  pub is_it : option_and_then as_top seen.top ≡ Some top
  pub standing : AreStanding top (bottoms_in seen.uses)
  pub flags : AsksBoth trace.flags → ⊥

-- ---- every action

-- what an action sees is what it needs
abbrev pub IsEnough : (action : Action) → Seen action → Type 0
IsEnough (MakeBuffer id size content) seen = seen ≡ None
IsEnough (MakeStructure id form) seen = seen ≡ None
IsEnough (DestroyBuffer id) seen = Unit {0}
IsEnough (DestroyStructure id) seen = Unit {0}
IsEnough (ShowSizes kind counts) seen = AreCounts counts
IsEnough (ShowBytes from form) seen = IsSome seen
IsEnough (UpdateBytes to content) seen = Unit {0}
IsEnough (FillBytes to value) seen = Unit {0}
IsEnough (CopyBytes from to) seen = IsSome seen
IsEnough (BuildBottom build flags geometries) seen =
    IsBottomReady build geometries seen × (bottoms.has_both_fast flags ≡ false)
IsEnough (UpdateBottom build src geometries) seen = IsBottomSource seen.0 × IsBottomReady build geometries seen.1
IsEnough (BuildTop build flags uses instances) seen =
    IsTopReady build uses instances seen × (tops.has_both_fast flags ≡ false)
IsEnough (UpdateTop build src uses instances) seen = IsTopSource instances seen.0 × IsTopReady build uses instances seen.1
IsEnough (CopyStructure mode src dst) seen = IsCopyReady seen.0 seen.1 × FitsMode mode seen.0
IsEnough (SerializeStructure src to form) seen = IsSome seen
IsEnough (DeserializeStructure from dst uses) seen = IsDeserializeReady uses seen
IsEnough (TellProperty what structures to) seen = IsSome (numbers_of what seen)
IsEnough (TraceRays trace) seen = IsTraceReady trace seen
IsEnough Rest seen = Unit {0}
IsEnough Impossible seen = ⊥

-- an action is ready in a memory
abbrev pub IsReady : Action → Memory → Type 0
IsReady action memory = IsEnough action (see action memory)
