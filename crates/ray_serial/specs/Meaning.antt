-- What bytes that are a form stand for. (Own: the form.)
use Rattle.std.specs.Prelude.{ℕ, ◌≡◌, ◌+◌, ◌*◌, ◌≤◌, Bool, true, false, ◌&&◌, nat_lt, if◌then◌else◌, Result, Ok, Err, Option, Some, None, is_none, option_map, option_and_then, List, length, take, drop, map, All, ◌^◌}
use Rattle.std.specs.List.{range_with_len}
use Rattle.ray_bytes.specs.Fields.{long_at}
use Rattle.ray_bytes.specs.StructureSizes.{structure_size}
use Rattle.ray_geometries.specs.Contents as bottoms
use Rattle.ray_geometries.specs.declared.geometry.Geometry.{Geometry}
use Rattle.ray_flags.specs.declared.build_flags.BuildFlags.{BuildFlags}
use Rattle.ray_flags.specs.declared.kind.Kind.{Kind}
use Rattle.ray_form.specs.declared.serial_fault.SerialFault.{SerialFault}
use Rattle.ray_tree.specs.Trees.{TreeValue}
use Rattle.ray_bottom.specs.Trees.{BottomWithTree, without_tree, items_of}
use Rattle.ray_tree_part.specs.TreeParts.{tree_in}
use Rattle.ray_serial.specs.declared.stored_fault.StoredFault.{StoredFault}
use Rattle.ray_serial.specs.declared.stored_fault.StoredFault.TheVariants.{BadTree, NoMemory}
use Rattle.ray_form.specs.Rows.{geometries_in}
use Rattle.ray_form.specs.Form.{device_text, form_text, form_2_text, has_tree, ends_wrongly, tree_part_in, handle_count_in, payload_in, is_top_payload, flags_of_payload, geometry_count, row_of, lacks_room, total_of_payload, has_bad_element, broken_line}

-- ---- which bytes are a form

-- bytes are a form where they break none of the eight lines
pub record IsForm (bytes : List ℕ) : Type 0 where
  pub unbroken : broken_line bytes ≡ None

-- the second text of form 2, and of form 1
abbrev pub text_of : Bool → List ℕ
text_of tree = if tree then form_2_text else form_text

-- the same line by line
pub record KeepsLines (bytes : List ℕ) : Type 0 where
  pub total : ℕ
  pub long : 56 ≤ length bytes
  pub device : take 16 bytes ≡ device_text
  pub form : take 16 (drop 16 bytes) ≡ text_of (has_tree bytes)
  pub size : long_at bytes 32 ≡ length bytes
  pub handles : handle_count_in bytes ≤ 65536
  pub room : 56 + 8 * handle_count_in bytes + 16 ≤ length bytes
  pub ending : ends_wrongly bytes ≡ false
  pub payload : total_of_payload (handle_count_in bytes) (payload_in bytes) ≡ Some total
  pub structure : long_at bytes 40 ≡ structure_size (geometry_count (payload_in bytes)) total
  pub elements : has_bad_element (handle_count_in bytes) (payload_in bytes) ≡ false

-- the bytes, where they are a form, else the first line that they break
abbrev pub opening : List ℕ → Option ℕ → Result (List ℕ) SerialFault
opening bytes None = Ok bytes
opening bytes (Some number) = Err (record { 0 = number })

abbrev pub opened : List ℕ → Result (List ℕ) SerialFault
opened bytes = opening bytes (broken_line bytes)

-- ---- what a form says of itself

-- whether it is that of a top structure
abbrev pub is_top_form : List ℕ → Bool
is_top_form bytes = is_top_payload (payload_in bytes)

-- how many bytes its structure takes
unfoldable pub deserialized_in : List ℕ → ℕ
deserialized_in bytes = long_at bytes 40

-- handle k, where there is one
unfoldable pub handle_at : List ℕ → ℕ → ℕ
handle_at bytes k = long_at bytes (56 + 8 * k)

-- all handles
abbrev pub handles_in : List ℕ → List ℕ
handles_in bytes = map (handle_at bytes) (range_with_len 0 (handle_count_in bytes))

abbrev pub handle_in : List ℕ → ℕ → Option ℕ
handle_in bytes k = if nat_lt k (handle_count_in bytes) then Some (handle_at bytes k) else None

-- ---- the contents of a bottom structure that a form stands for

abbrev pub with_flags : BuildFlags → List Geometry → bottoms.ContentsValue
with_flags flags geometries = record { flags = flags; geometries = geometries }

unfoldable pub bottom_in_payload : List ℕ → Option bottoms.ContentsValue
bottom_in_payload payload =
    option_map (with_flags (flags_of_payload payload)) (geometries_in (geometry_count payload) (row_of payload))

abbrev pub bottom_in : List ℕ → Option bottoms.ContentsValue
bottom_in bytes = bottom_in_payload (payload_in bytes)

-- ---- the tree that a form 2 carries

-- the tree over these contents' primitives that a tree part spells, where it spells one
unfoldable pub tree_over : Option bottoms.ContentsValue → List ℕ → Option TreeValue
tree_over found part = option_and_then (λ (c : bottoms.ContentsValue). tree_in (items_of c.geometries) part) found

-- the same of a form 2
unfoldable pub tree_in_form : List ℕ → Option TreeValue
tree_in_form bytes = tree_over (bottom_in bytes) (tree_part_in bytes)

-- number 10: it is a form 2, and carries no tree
unfoldable pub lacks_its_tree : List ℕ → Bool
lacks_its_tree bytes = has_tree bytes && is_none (tree_in_form bytes)

-- what reading the bottom structure of a form gives: the contents that it stands for, with the tree of a form 2; that a form 2
-- carries none; or want of memory
abbrev pub IsToBottom : List ℕ → Result BottomWithTree StoredFault → Type 0
IsToBottom bytes (Ok bottom) =
    ((bottom_in bytes ≡ Some (without_tree bottom)) × (has_tree bytes ≡ true → tree_in_form bytes ≡ Some bottom.tree)) × (lacks_its_tree bytes ≡ false)
IsToBottom bytes (Err BadTree) = lacks_its_tree bytes ≡ true
IsToBottom bytes (Err NoMemory) = Unit {0}

-- ---- words of private calls alone

-- what restoring contents with the tree that a part spells gives
abbrev pub IsRestored : Option bottoms.ContentsValue → List ℕ → Result BottomWithTree StoredFault → Type 0
IsRestored found part (Ok bottom) = (found ≡ Some (without_tree bottom)) × (tree_over found part ≡ Some bottom.tree)
IsRestored found part (Err BadTree) = tree_over found part ≡ None
IsRestored found part (Err NoMemory) = Unit {0}

-- there is room for the header, the handles and the head of the payload
pub record HasRoom (bytes : List ℕ) : Type 0 where
  pub long : 56 ≤ length bytes
  pub room : lacks_room bytes ≡ false

-- n geometries are there that can be restored: all of one kind, and within the limits of counts
pub record CanRestore (n : ℕ) (row : List ℕ) : Type 0 where
  pub all : List Geometry
  pub read : geometries_in n row ≡ Some all
  pub kind : Kind
  pub kinds : All (λ g. bottoms.kind_of g ≡ kind) all
  pub few : length all ≤ 256
  pub primitives : bottoms.total_of all ≤ 2 ^ 20
