-- The form that a structure is written as. (Own: the form; vkCmdCopyAccelerationStructureToMemoryKHR.)
use Rattle.std.specs.Prelude.{ℕ, ◌≡◌, ◌+◌, ◌*◌, All, List, [], ◌∷◌, ◌++◌, length}
use Rattle.std.specs.List.{flat_map}
use Rattle.byteorder.specs.Endian.{little_bytes}
use Rattle.ray_bytes.specs.StructureSizes.{structure_size}
use Rattle.ray_geometries.specs.Contents as bottoms
use Rattle.ray_geometries.specs.declared.geometry.Geometry.{Geometry}
use Rattle.ray_geometries.specs.Storing.{payload_of}
use Rattle.ray_flags.specs.declared.kind.Kind.{Kind}
use Rattle.ray_bottom.specs.Trees.{items_of}
use Rattle.ray_stated.specs.Stated.{stated_tree}
use Rattle.ray_tree_part.specs.TreeParts.{tree_bytes}
use Rattle.ray_form.specs.Form.{device_text, form_text, form_2_text}

-- numbers of 64 bits
unfoldable pub long_bytes : List ℕ → List ℕ
long_bytes numbers = flat_map (little_bytes 8) numbers

-- the form with this deserialized size, these handles and this payload: the two texts, the serialized size, the deserialized
-- size and the count of handles, the handles, and the payload
abbrev pub form_size : List ℕ → List ℕ → ℕ
form_size handles payload = 56 + 8 * length handles + length payload

unfoldable pub form_bytes : ℕ → List ℕ → List ℕ → List ℕ
form_bytes deserialized handles payload =
    device_text
    ++ (form_text
    ++ (long_bytes (form_size handles payload ∷ deserialized ∷ length handles ∷ []) ++ (long_bytes handles ++ payload)))

-- the form of a bottom structure: its deserialized size is that of its structure, and it has no handles
unfoldable pub bottom_form : bottoms.ContentsValue → List ℕ
bottom_form c =
    form_bytes (structure_size (length c.geometries) (bottoms.total_of c.geometries)) [] (payload_of c)

-- the same in form 2: its second text, and behind the payload the tree part of the stated tree over the primitives
abbrev pub form_2_size : List ℕ → List ℕ → ℕ
form_2_size payload part = 56 + (length payload + length part)

unfoldable pub form_2_bytes : ℕ → List ℕ → List ℕ → List ℕ
form_2_bytes deserialized payload part =
    device_text ++ (form_2_text ++ (long_bytes (form_2_size payload part ∷ deserialized ∷ 0 ∷ []) ++ (payload ++ part)))

unfoldable pub bottom_form_2 : bottoms.ContentsValue → List ℕ
bottom_form_2 c =
    form_2_bytes (structure_size (length c.geometries) (bottoms.total_of c.geometries)) (payload_of c)
    (tree_bytes (stated_tree (items_of c.geometries)))

-- ---- words of private calls alone

-- geometries are all of one kind
pub record AreOf (kind : Kind) (geometries : List Geometry) : Type 0 where
  pub all : All (λ g. bottoms.kind_of g ≡ kind) geometries
