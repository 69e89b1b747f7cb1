-- The serialized form, and the first of the eight lines of faults that bytes break. (Own: the form; it is what
-- vkCmdCopyAccelerationStructureToMemoryKHR writes. The first 56 bytes are laid out as VkAccelerationStructureVersionInfoKHR
-- and the three sizes that Vulkan places after it.)
--
--     0        the 16 bytes of the text 'vkray-software-1'
--     16       the 16 bytes of the text 'vkray-form-00001', or 'vkray-form-00002' in form 2
--     32       the serialized size in 64 bits: all bytes of the form
--     40       the deserialized size in 64 bits: the size of the structure
--     48       the count h of handles in 64 bits; 0 for a bottom structure
--     56       h handles of 64 bits
--     56 + 8 h the payload: four words of 32 bits, which are the number of its kind (0 a bottom, 1 a top), its build flags,
--              its count of geometries and 0; and its geometries, each with its head and its elements
--     then     in form 2 a tree part (`specs/TreeParts` of `ray_tree_part`)
use Rattle.std.specs.Prelude.{ℕ, ◌+◌, ◌*◌, ◌==◌, ◌&&◌, ◌||◌, not, nat_eq, nat_le, nat_lt, Bool, if◌then◌else◌, Option, Some, None, is_none, List, codes, length, take, drop}
use Rattle.std.specs.Cmp.Lexicographic.{pointwise}
use Rattle.ray_bytes.specs.Fields.{word_at, long_at}
use Rattle.ray_bytes.specs.StructureSizes.{structure_size}
use Rattle.ray_flags.specs.declared.build_flags.BuildFlags.{BuildFlags}
use Rattle.ray_top.specs.Contents.{has_both_fast}
use Rattle.ray_tree_part.specs.TreeParts.{is_part}
use Rattle.ray_form.specs.Rows.{row_total, row_size, geometries_in}
use Rattle.ray_form.specs.InstanceBytes.{are_instances}

-- ---- the parts

abbrev pub device_text : List ℕ
device_text = codes "vkray-software-1"

abbrev pub form_text : List ℕ
form_text = codes "vkray-form-00001"

abbrev pub form_2_text : List ℕ
form_2_text = codes "vkray-form-00002"

-- a text isn't the one that stands here
unfoldable pub lacks : List ℕ → ℕ → List ℕ → Bool
lacks text at bytes = not (pointwise nat_eq (take 16 (drop at bytes)) text)

-- whether they are in form 2, which has a tree part after the elements
unfoldable pub has_tree : List ℕ → Bool
has_tree bytes = not (lacks form_2_text 16 bytes)

-- how many handles there are
unfoldable pub handle_count_in : List ℕ → ℕ
handle_count_in bytes = long_at bytes 48

-- what follows the handles
unfoldable pub body_in : List ℕ → List ℕ
body_in bytes = drop (56 + 8 * handle_count_in bytes) bytes

-- the head of a payload: whether it is that of a top structure, its flags, and its count of geometries
unfoldable pub is_top_payload : List ℕ → Bool
is_top_payload payload = word_at payload 0 == 1

unfoldable pub flags_of_payload : List ℕ → BuildFlags
flags_of_payload payload = record { 0 = word_at payload 4 }

unfoldable pub geometry_count : List ℕ → ℕ
geometry_count payload = word_at payload 8

-- the geometries of a payload
unfoldable pub row_of : List ℕ → List ℕ
row_of payload = drop 16 payload

-- how many bytes the payload takes where others follow it: its head, and its geometries
unfoldable pub payload_size : List ℕ → ℕ
payload_size body = 16 + row_size (geometry_count body) (row_of body)

-- the payload, which is followed by the tree part in form 2 and by nothing in form 1; and the tree part
abbrev pub payload_of_body : Bool → List ℕ → List ℕ
payload_of_body tree body = if tree then take (payload_size body) body else body

unfoldable pub payload_in : List ℕ → List ℕ
payload_in bytes = payload_of_body (has_tree bytes) (body_in bytes)

unfoldable pub tree_part_in : List ℕ → List ℕ
tree_part_in bytes = drop (payload_size (body_in bytes)) (body_in bytes)

-- the instances of a top structure, which stand after the head of its geometry
unfoldable pub instances_of_payload : List ℕ → List ℕ
instances_of_payload payload = drop 48 payload

-- ---- the lines

-- line 1: there are fewer than 56 bytes
abbrev pub is_short : List ℕ → Bool
is_short bytes = nat_lt (length bytes) 56

-- line 3: the second text is that of neither form
unfoldable pub has_other_form : List ℕ → Bool
has_other_form bytes = lacks form_text 16 bytes && not (has_tree bytes)

-- line 4: the serialized size isn't the number of bytes
unfoldable pub has_other_size : List ℕ → Bool
has_other_size bytes = not (long_at bytes 32 == length bytes)

-- line 5: there are more than 65,536 handles, or no room for them and the payload's head
unfoldable pub lacks_room : List ℕ → Bool
lacks_room bytes = nat_lt 65536 (handle_count_in bytes) || nat_lt (length bytes) (56 + 8 * handle_count_in bytes + 16)

-- line 6: the payload isn't that of a structure. How many elements it has: those of the geometries of a bottom structure, at
-- most 256, all of triangles or all of boxes, with at most 2^20 elements together; or those of the one geometry of a top
-- structure, at most 2^16 instances. None where the geometries don't fill the bytes exactly, or a limit is broken
abbrev pub at_most : ℕ → Option ℕ → Option ℕ
at_most greatest None = None
at_most greatest (Some n) = if nat_le n greatest then Some n else None

abbrev pub or_else : Option ℕ → Option ℕ → Option ℕ
or_else (Some n) other = Some n
or_else None other = other

unfoldable pub bottom_total : List ℕ → Option ℕ
bottom_total payload =
    if nat_le (geometry_count payload) 256 then
    at_most 1048576 (or_else (row_total 0 (geometry_count payload) (row_of payload)) (row_total 1 (geometry_count payload) (row_of payload)))
    else None

unfoldable pub top_total : List ℕ → Option ℕ
top_total payload = if geometry_count payload == 1 then at_most 65536 (row_total 2 1 (row_of payload)) else None

-- the flags are flags of a build, not both fast ones, and the last word of the head is 0
unfoldable pub has_flags : List ℕ → Bool
has_flags payload =
    nat_lt (word_at payload 4) 32 && not (has_both_fast (flags_of_payload payload)) && (word_at payload 12 == 0)

-- a bottom structure has no handles
unfoldable pub total_of_payload : ℕ → List ℕ → Option ℕ
total_of_payload handles payload =
    if has_flags payload then
    (if word_at payload 0 == 0 then (if handles == 0 then bottom_total payload else None)
    else if word_at payload 0 == 1 then top_total payload
    else None)
    else None

-- form 2 is that of a top structure, or what follows the elements hasn't the size of a tree part
unfoldable pub ends_wrongly : List ℕ → Bool
ends_wrongly bytes = has_tree bytes && (is_top_payload (payload_in bytes) || not (is_part (tree_part_in bytes)))

-- line 7: the deserialized size isn't that of a structure of its geometries and elements
unfoldable pub has_other_structure_size : ℕ → ℕ → ℕ → Bool
has_other_structure_size size geometries total = not (size == structure_size geometries total)

-- line 8: an element stands for none
unfoldable pub has_bad_element : ℕ → List ℕ → Bool
has_bad_element handles payload =
    if is_top_payload payload then not (are_instances handles (instances_of_payload payload))
    else is_none (geometries_in (geometry_count payload) (row_of payload))

-- ---- the first broken line

-- this line where it is broken, else the first of the others
abbrev pub line : ℕ → Bool → Option ℕ → Option ℕ
line number is_broken others = if is_broken then Some number else others

-- lines 7 and 8, where line 6 holds
unfoldable pub broken_contents_line : List ℕ → ℕ → Option ℕ
broken_contents_line bytes total =
    line 7 (has_other_structure_size (long_at bytes 40) (geometry_count (payload_in bytes)) total)
    (line 8 (has_bad_element (handle_count_in bytes) (payload_in bytes)) None)

-- line 6, and those after it
abbrev pub payload_line : List ℕ → Option ℕ → Option ℕ
payload_line bytes None = Some 6
payload_line bytes (Some total) = broken_contents_line bytes total

unfoldable pub broken_payload_line : List ℕ → Option ℕ
broken_payload_line bytes =
    line 6 (ends_wrongly bytes) (payload_line bytes (total_of_payload (handle_count_in bytes) (payload_in bytes)))

unfoldable pub broken_line : List ℕ → Option ℕ
broken_line bytes =
    line 1 (is_short bytes)
    (line 2 (lacks device_text 0 bytes)
    (line 3 (has_other_form bytes)
    (line 4 (has_other_size bytes)
    (line 5 (lacks_room bytes)
    (broken_payload_line bytes)))))
