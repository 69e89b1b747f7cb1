-- Areas of the memory, of which what an action reads is a list. (Own.)
use Rattle.std.specs.Prelude.{ℕ, ◌+◌, ◌≡◌, List, [], ◌∷◌, Bool, true, false, ◌&&◌, ◌||◌, ◌==◌, nat_le, nat_lt}
use Rattle.std.specs.List.{list_any}
use Rattle.ray_rules.specs.declared.byte_range.ByteRange.{ByteRange}
use Rattle.ray_action.specs.Memory.{Location, ByteAt, BufferAt, StructureAt, ContentsAt, Memory}

-- the bytes of a range; the size of a buffer; what a structure is; what a structure holds; what each of
-- several structures holds
pub data Area : Type 0 where
  Bytes : (r : ByteRange) → Area
  SizeOf : (buffer : ℕ) → Area
  FormOf : (structure : ℕ) → Area
  ContentsOf : (structure : ℕ) → Area
  ContentsOfEach : (structures : List ℕ) → Area

-- whether an id is among others
abbrev pub has : List ℕ → ℕ → Bool
has ids id = list_any (λ other. other == id) ids

-- whether a location is a byte of a range
abbrev pub is_in_range : ByteRange → Location → Bool
is_in_range r (ByteAt buffer at) = (buffer == r.buffer) && (nat_le r.from at && nat_lt at (r.from + r.size))
is_in_range r (BufferAt id) = false
is_in_range r (StructureAt id) = false
is_in_range r (ContentsAt id) = false

-- whether a location is the size of a buffer
abbrev pub is_size : ℕ → Location → Bool
is_size buffer (ByteAt other at) = false
is_size buffer (BufferAt id) = id == buffer
is_size buffer (StructureAt id) = false
is_size buffer (ContentsAt id) = false

-- whether a location says what a structure is
abbrev pub is_form : ℕ → Location → Bool
is_form structure (ByteAt buffer at) = false
is_form structure (BufferAt id) = false
is_form structure (StructureAt id) = id == structure
is_form structure (ContentsAt id) = false

-- whether a location says what a structure holds, and what one of several structures holds
abbrev pub is_contents_of : ℕ → Location → Bool
is_contents_of structure (ByteAt buffer at) = false
is_contents_of structure (BufferAt id) = false
is_contents_of structure (StructureAt id) = false
is_contents_of structure (ContentsAt id) = id == structure

abbrev pub is_contents_of_any : List ℕ → Location → Bool
is_contents_of_any structures (ByteAt buffer at) = false
is_contents_of_any structures (BufferAt id) = false
is_contents_of_any structures (StructureAt id) = false
is_contents_of_any structures (ContentsAt id) = has structures id

-- whether an area has a location
abbrev pub covers : Area → Location → Bool
covers (Bytes r) l = is_in_range r l
covers (SizeOf buffer) l = is_size buffer l
covers (FormOf structure) l = is_form structure l
covers (ContentsOf structure) l = is_contents_of structure l
covers (ContentsOfEach structures) l = is_contents_of_any structures l

-- whether one of several areas has a location
abbrev pub cover : List Area → Location → Bool
cover [] l = false
cover (area ∷ areas) l = covers area l || cover areas l

-- two memories hold the same in each location of some areas
abbrev pub AgreeOn : List Area → Memory → Memory → Type 0
AgreeOn areas memory other = (l : Location) → cover areas l ≡ true → memory l ≡ other l
