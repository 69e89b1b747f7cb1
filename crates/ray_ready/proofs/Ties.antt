-- The invariant of the induction: how the status of a recording and the memory of the device are tied.
use Rattle.std.proofs.Common.{◌≡◌, ◌<◌, ◌≤◌, ℕ, Bool, false, true, List, Option, Some, IsSome, IfSome, All, length}
use Rattle.std.specs.Prelude.{not}
use Rattle.std.specs.Option.{option_map, option_map_or, option_and_then}
use Rattle.ray_geom.specs.Boxes.{BoxValue}
use Rattle.ray_geometries.specs.Contents as bottoms
use Rattle.ray_top.specs.Contents as tops
use Rattle.ray_top.specs.Instances.{InstanceValue}
use Rattle.ray_top.specs.InstanceReading.{bounds_in}
use Rattle.ray_cmd.specs.declared.command.Command.{Command}
use Rattle.ray_cmd.specs.declared.info.Info.{Info}
use Rattle.ray_cmd.specs.declared.structure_kind.StructureKind.{StructureKind}
use Rattle.ray_cmd.specs.declared.structure_kind.StructureKind.TheVariants as kinds
use Rattle.ray_rules.specs.declared.built.Built.{Built}
use Rattle.ray_rules.specs.declared.live_buffer.LiveBuffer.{LiveBuffer}
use Rattle.ray_rules.specs.declared.live_structure.LiveStructure.{LiveStructure}
use Rattle.ray_rules.specs.Buffers.{is_alone}
use Rattle.ray_rules.specs.Ids.{Ids, look}
use Rattle.ray_rules.specs.Origins.{info_of, is_deserialized, uses_of}
use Rattle.ray_rules.specs.Ranges.{primitives, size_at}
use Rattle.ray_rules.specs.Status.{Status}
use Rattle.ray_action.specs.declared.form.Form.{Form}
use Rattle.ray_action.specs.Areas.{has}
use Rattle.ray_action.specs.Memory.{Contents, Memory, Bottom, Top, ByteAt, BufferAt, StructureAt, ContentsAt, as_bottom}
use Rattle.ray_ready.proofs.Maps.{Rise}

-- ---- what the status says

-- a structure is live, of a kind, and was built by this
pub record IsBuilt (found : Option LiveStructure) (kind : StructureKind) (b : Built) : Type 0 where
  pub structure : LiveStructure
  pub is_it : found ≡ Some structure
  pub same_kind : structure.kind ≡ kind
  pub built : structure.built ≡ Some b

-- it is a bottom, last written at a stamp or before it
pub record IsFresh (stamp : ℕ) (found : Option LiveStructure) : Type 0 where
  pub by : Built
  pub built : IsBuilt found kinds.Bottom by
  pub early : by.written ≤ stamp

-- what something was built by is no later than command number i, of which the infos below number k are done
pub record IsEarlier (i k : ℕ) (b : Built) : Type 0 where
  pub written : b.written ≤ i
  pub stamp : b.stamp ≤ b.written
  pub info : b.stamp ≡ i → b.info < k

-- ---- what the memory holds

-- a top structure has as many instances as the info by which it was built
pub record IsAsMany (rec : List Command) (b : Built) (top : tops.TopValue) : Type 0 where
  pub by : Info
  pub info : info_of rec b ≡ Some by
  pub count : length top.contents.instances ≡ primitives by.geometries

-- the contents of a top structure that was built by this: each active instance refers to a structure in use,
-- those are the ones that its command names, and where an info built it, it has as many instances as that
pub record IsTopBy (rec : List Command) (b : Built) (found : Option Contents) : Type 0 where
  pub top : tops.TopValue
  pub is_it : found ≡ Some (Top top)
  pub in_use : (u : ℕ) (x : Option BoxValue) → bounds_in top.used u ≡ Some x → has (uses_of rec b) u ≡ true
  pub active : All (λ (i : Option InstanceValue). IfSome i (λ v. IsSome (bounds_in top.used v.id))) top.contents.instances
  pub count : is_deserialized rec b ≡ false → IsAsMany rec b top

-- the contents of a structure of a kind that was built by this
abbrev pub Fills : List Command → StructureKind → Built → Option Contents → Type 0
Fills rec kinds.Bottom b found = IsSome (option_and_then as_bottom found)
Fills rec kinds.Top b found = IsTopBy rec b found

-- a bottom structure with these bounds
pub record IsBounded (x : Option BoxValue) (found : Option Contents) : Type 0 where
  pub bottom : bottoms.ContentsValue
  pub is_it : found ≡ Some (Bottom bottom)
  pub bounds : x ≡ bottoms.bounds_of bottom.geometries

-- ---- how they are tied

abbrev pub size_of : LiveBuffer → ℕ
size_of b = b.size

abbrev pub form_of : LiveStructure → Form
form_of s = record { kind = s.kind; size = s.size }

-- whether a buffer keeps bytes: each does but one for scratch memory alone, or for structures alone
abbrev pub keeps_bytes : LiveBuffer → Bool
keeps_bytes b = not (is_alone b.usage)

-- whether the buffer of an id does, where it is live
abbrev pub keeps_bytes_at : Ids LiveBuffer → ℕ → Bool
keeps_bytes_at buffers id = option_map_or keeps_bytes (look buffers id) true

-- live buffers have their sizes, and all their bytes where they keep them
pub record TiedBuffers (buffers : Ids LiveBuffer) (sizes : ℕ → Option ℕ) (bytes : ℕ → ℕ → Option ℕ) : Type 0 where
  pub rise : Rise buffers
  pub size : (id : ℕ) → sizes id ≡ option_map size_of (look buffers id)
  pub there : (id at : ℕ) → keeps_bytes_at buffers id ≡ true → at < size_at buffers id → IsSome (bytes id at)

-- live structures have their forms
pub record TiedForms (structures : Ids LiveStructure) (forms : ℕ → Option Form) : Type 0 where
  pub rise : Rise structures
  pub form : (id : ℕ) → forms id ≡ option_map form_of (look structures id)

-- built structures have their contents. The bounds that stand beside a top's uses are those that the
-- structure has, as long as it wasn't written after the top's stamp
pub record TiedContents (rec : List Command) (i k : ℕ) (structures : Ids LiveStructure) (contents : ℕ → Option Contents) : Type 0 where
  pub order : (id : ℕ) (kind : StructureKind) (b : Built) → IsBuilt (look structures id) kind b → IsEarlier i k b
  pub held : (id : ℕ) (kind : StructureKind) (b : Built) → IsBuilt (look structures id) kind b → Fills rec kind b (contents id)
  pub bounds : (id : ℕ) (b : Built) (t : tops.TopValue) (u : ℕ) (x : Option BoxValue) → IsBuilt (look structures id) kinds.Top b
      → contents id ≡ Some (Top t) → bounds_in t.used u ≡ Some x → IsFresh b.stamp (look structures u) → IsBounded x (contents u)

-- a status and a memory are tied, in command number i, of which the infos below number k are done
pub record Ties (rec : List Command) (i k : ℕ) (z : Status) (m : Memory) : Type 0 where
  pub buffers : TiedBuffers z.buffers (λ id. m (BufferAt id)) (λ id at. m (ByteAt id at))
  pub forms : TiedForms z.structures (λ id. m (StructureAt id))
  pub contents : TiedContents rec i k z.structures (λ id. m (ContentsAt id))
