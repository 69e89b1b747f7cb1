-- Structures by their ids. (Own: ids stand for the handles of VkAccelerationStructureKHR.)
use Rattle.std.specs.Prelude.{ℕ, ◌≡◌, ◌==◌, Bool, if◌then◌else◌, Option, Some, option_and_then, option_map, is_some, List}
use Rattle.std.specs.Map.{lookup}
use Rattle.std.specs.BTreeMap.{is_at}
use Rattle.std.specs.Ordering.{nat_cmp}
use Rattle.ray_tree.specs.Trees.{TreeOver}
use Rattle.ray_wide.specs.Wides.{WideOver}
use Rattle.ray_geometries.specs.Contents.{ContentsValue, IsContents}
use Rattle.ray_bottom.specs.Trees.{BottomWithTree, items_of, without_tree}

-- the ids for which room was made, each with what stands under it
abbrev pub Slots : Type 0
Slots = List (ℕ × Option BottomWithTree)

-- the room of an id, if there is any, the structure that stands under it, and its contents
abbrev pub slot_at : ℕ → Slots → Option (Option BottomWithTree)
slot_at id slots = lookup (is_at (nat_cmp id)) slots

abbrev pub structure_at : ℕ → Slots → Option BottomWithTree
structure_at id slots = option_and_then (λ slot. slot) (slot_at id slots)

abbrev pub contents_at : ℕ → Slots → Option ContentsValue
contents_at id slots = option_map without_tree (structure_at id slots)

-- whether there is room for an id
abbrev pub has_room : ℕ → Slots → Bool
has_room id slots = is_some (slot_at id slots)

-- the room of an id is changed, and that of no other
pub record Changes (id : ℕ) (slot : Option (Option BottomWithTree)) (before after : Slots) : Type 0 where
  pub each : (q : ℕ) → slot_at q after ≡ (if q == id then slot else slot_at q before)

-- a bottom structure within the limits, with a tree over its primitives, and a wide one over its leaves
pub record IsSound (b : BottomWithTree) : Type 0 where
  pub limits : IsContents (without_tree b)
  pub over : TreeOver b.tree (items_of b.geometries)
  pub wide : WideOver b.wide b.tree

-- each of them is so
pub record AreSound (bottoms : Slots) : Type 0 where
  pub each : (id : ℕ) (b : BottomWithTree) → structure_at id bottoms ≡ Some b → IsSound b
