-- What a state of the program is, and the memory that it holds. (Own.)
use Rattle.std.specs.Prelude.{ℕ, ◌≡◌, slice_get, Option, Some, None, true, option_map, option_and_then, ◌==◌, if◌then◌else◌}
use Rattle.ray_geometries.specs.Contents as bottoms
use Rattle.ray_bottom.specs.Slots.{Slots, contents_at, has_room}
use Rattle.ray_top.specs.Trees.{TopWithTree, without_tree}
use Rattle.ray_cmd.specs.declared.structure_kind.StructureKind.{StructureKind}
use Rattle.ray_cmd.specs.declared.structure_kind.StructureKind.TheVariants as kinds
use Rattle.ray_rules.specs.declared.byte_range.ByteRange.{ByteRange}
use Rattle.ray_rules.specs.Ids.{Ids, look}
use Rattle.ray_action.specs.declared.form.Form.{Form}
use Rattle.ray_action.specs.Memory.{Contents, Bottom, Top, Memory, ByteAt, BufferAt, StructureAt, ContentsAt}
use Rattle.ray_memory.specs.declared.structure.Structure.{Structure}
use Rattle.ray_memory.specs.Bytes.{BufferValue, IsWrittenIn}

-- each live buffer, the live structures with what top structures hold, and what bottom
-- structures hold
pub record StateValue : Type 0 where
  pub buffers : Ids BufferValue
  pub structures : Ids Structure
  pub bottoms : Slots

-- a byte of a buffer that is there, where it keeps its bytes, and its size
abbrev pub byte_in : ℕ → Option BufferValue → Option ℕ
byte_in at buffer = option_and_then (λ (b : BufferValue). slice_get b.bytes at) buffer

abbrev pub size_in : Option BufferValue → Option ℕ
size_in buffer = option_map (λ (b : BufferValue). b.size) buffer

-- what a structure that is there is
abbrev pub form_in : Option Structure → Option Form
form_in structure = option_map (λ (s : Structure). s.form) structure

-- what a structure of a kind holds, of the bottom and the top structure that stand for it
abbrev pub held_by : StructureKind → Option bottoms.ContentsValue → Option TopWithTree → Option Contents
held_by kinds.Bottom bottom top = option_map Bottom bottom
held_by kinds.Top bottom top = option_map (λ t. Top (without_tree t)) top

abbrev pub contents_in : Option bottoms.ContentsValue → Option Structure → Option Contents
contents_in bottom None = None
contents_in bottom (Some s) = held_by s.form.kind bottom s.top

-- the top structure that a structure holds
abbrev pub top_by : StructureKind → Option TopWithTree → Option TopWithTree
top_by kinds.Bottom top = None
top_by kinds.Top top = top

abbrev pub top_in : Structure → Option TopWithTree
top_in s = top_by s.form.kind s.top

-- the top structure that a state has under an id, if it has one there
abbrev pub top_at : ℕ → StateValue → Option TopWithTree
top_at id s = option_and_then top_in (look s.structures id)

-- the memory that a state holds
abbrev pub memory_of : StateValue → Memory
memory_of s (ByteAt buffer at) = byte_in at (look s.buffers buffer)
memory_of s (BufferAt id) = size_in (look s.buffers id)
memory_of s (StructureAt id) = form_in (look s.structures id)
memory_of s (ContentsAt id) = contents_in (contents_at id s.bottoms) (look s.structures id)

-- there is room for what a live bottom structure comes to hold, and no other id has contents there
pub record IsRoomy (structures : Ids Structure) (slots : Slots) : Type 0 where
  pub room : (id : ℕ) (s : Structure) → look structures id ≡ Some s → s.form.kind ≡ kinds.Bottom → has_room id slots ≡ true
  pub no_stray : (id : ℕ) (c : bottoms.ContentsValue) → contents_at id slots ≡ Some c
      → (s : Structure) × (look structures id ≡ Some s) × (s.form.kind ≡ kinds.Bottom)

-- room is made for a structure: for a bottom one under its id; what stands under each id is as before
pub record HasRoomFor (id : ℕ) (kind : StructureKind) (before after : Slots) : Type 0 where
  pub same : (q : ℕ) → contents_at q after ≡ contents_at q before
  pub kept : (q : ℕ) → has_room q before ≡ true → has_room q after ≡ true
  pub room : kind ≡ kinds.Bottom → has_room id after ≡ true

-- a structure with a top structure that it holds
abbrev pub with_top : TopWithTree → Structure → Structure
with_top top s = record s { top = Some top }

-- a structure comes to hold a top structure, where it is live
pub record HoldsIn (id : ℕ) (top : TopWithTree) (before after : Ids Structure) : Type 0 where
  pub each : (q : ℕ) → look after q ≡ (if q == id then option_map (with_top top) (look before q) else look before q)

-- the bytes of a range are written in its buffer, where that is live
pub record WritesIn (to : ByteRange) (byte_for : ℕ → Option ℕ) (before after : Ids BufferValue) : Type 0 where
  pub here : (old : BufferValue) → look before to.buffer ≡ Some old
      → (new : BufferValue) × (look after to.buffer ≡ Some new) × IsWrittenIn to byte_for old new
  pub gone : look before to.buffer ≡ None → look after to.buffer ≡ None
  pub others : (q : ℕ) → (q ≡ to.buffer → ⊥) → look after q ≡ look before q

-- what stands under an id is changed, and under no other
pub record Becomes {X : Type 0} (id : ℕ) (found : Option X) (before after : Ids X) : Type 0 where
  pub each : (q : ℕ) → look after q ≡ (if q == id then found else look before q)
