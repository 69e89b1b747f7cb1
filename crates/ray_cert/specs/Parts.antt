-- What a certificate of a ray speaks of: for each active instance whose mask is seen, in rising number, the stated tree of its
-- structure, and what the ray meets and finds there. (Own.)
use Rattle.std.specs.Prelude.{ℕ, ◌≡◌, ◌==◌, if◌then◌else◌, Option, Some, None, IfSome, option_map, option_and_then, List, [], ◌∷◌, length, All}
use Rattle.std.specs.List.{flat_map, range_with_len}
use Rattle.std.specs.Map.{lookup}
use Rattle.std.specs.BTreeMap.{is_at}
use Rattle.std.specs.Ordering.{nat_cmp}
use Rattle.ray_geom.specs.declared.ratio.Ratio.{Ratio}
use Rattle.ray_geom.specs.ObjectRay.{object_of}
use Rattle.ray_geom.specs.Scene.{RayValue}
use Rattle.ray_flags.specs.declared.ray_flags.RayFlags.{RayFlags}
use Rattle.ray_tree.specs.Trees.{TreeValue, box_at, no_box}
use Rattle.ray_stated.specs.Stated.{stated_tree}
use Rattle.ray_bottom.specs.Slots.{Slots, structure_at}
use Rattle.ray_bottom.specs.Trees.{BottomWithTree, items_of}
use Rattle.ray_top.specs.Instances.{InstanceValue}
use Rattle.ray_top.specs.Contents.{ContentsValue as TopContents}
use Rattle.ray_query.specs.declared.found.Found.{Found}
use Rattle.ray_candidates.specs.Candidates.{active_instance, is_seen}
use Rattle.ray_candidates.specs.Placements.{Placement, entry_in, found_by_item}

-- the tree of the structure of one instance; where the ray enters the box of each node, which is none where it doesn't meet it; and
-- what it finds of each item
pub record Part : Type 0 where
  pub tree : TreeValue
  pub entry : ℕ → Option Ratio
  pub find : ℕ → List Found

-- the stated tree of a structure
abbrev pub tree_of : BottomWithTree → TreeValue
tree_of bottom = stated_tree (items_of bottom.geometries)

-- of a tree over the structure that an instance of this number places in the world. Boxes are met in the object's space
abbrev pub part_of : RayValue → RayFlags → ℕ → Placement → TreeValue → Part
part_of ray flags number p tree = record {
  tree = tree;
  entry = λ n. entry_in (object_of ray p.instance.matrix) (box_at tree no_box n);
  find = found_by_item ray flags number p;
}

-- the instance with its structure, where its mask is seen
abbrev pub placement_of : Slots → ℕ → InstanceValue → Option Placement
placement_of bottoms mask i =
    if is_seen mask i then option_map (λ b. record { instance = i; bottom = b }) (structure_at i.id bottoms) else None

-- that of the instance of a number, where it is active
abbrev pub placement_at : TopContents → Slots → ℕ → ℕ → Option Placement
placement_at top bottoms mask number = option_and_then (placement_of bottoms mask) (active_instance top number)

abbrev pub parts_by : RayValue → RayFlags → ℕ → Option Placement → List Part
parts_by ray flags number None = []
parts_by ray flags number (Some p) = part_of ray flags number p (tree_of p.bottom) ∷ []

-- the part of the instance of a number, if it has one
abbrev pub parts_at : TopContents → Slots → RayValue → RayFlags → ℕ → ℕ → List Part
parts_at top bottoms ray flags mask number = parts_by ray flags number (placement_at top bottoms mask number)

-- and those of so many instances from a number on
abbrev pub parts_from : TopContents → Slots → RayValue → RayFlags → ℕ → ℕ → ℕ → List Part
parts_from top bottoms ray flags mask from many = flat_map (parts_at top bottoms ray flags mask) (range_with_len from many)

-- those of all instances
abbrev pub parts_of_ray : TopContents → Slots → RayValue → RayFlags → ℕ → List Part
parts_of_ray top bottoms ray flags mask = parts_from top bottoms ray flags mask 0 (length top.instances)

-- ---- trees that are kept

-- trees by the ids of the structures, and that of an id
abbrev pub Trees : Type 0
Trees = List (ℕ × TreeValue)

abbrev pub tree_at : ℕ → Trees → Option TreeValue
tree_at id trees = lookup (is_at (nat_cmp id)) trees

-- a tree is put under an id, and the other ids keep theirs
pub record PutsTree (id : ℕ) (tree : TreeValue) (before after : Trees) : Type 0 where
  pub each : (q : ℕ) → tree_at q after ≡ (if q == id then Some tree else tree_at q before)

-- the stated tree of the structure that an instance names stands under its id, where there is such a structure
pub record IsStatedFor (bottoms : Slots) (trees : Trees) (i : InstanceValue) : Type 0 where
  pub tree : tree_at i.id trees ≡ option_map tree_of (structure_at i.id bottoms)

-- so it is for each active instance of a top structure
pub record AreStatedFor (top : TopContents) (bottoms : Slots) (trees : Trees) : Type 0 where
  pub each : All (λ i. IfSome i (IsStatedFor bottoms trees)) top.instances

-- each tree that stands there is the stated tree of the structure of its id
pub record AreRight (bottoms : Slots) (trees : Trees) : Type 0 where
  pub each : (id : ℕ) (tree : TreeValue) → tree_at id trees ≡ Some tree → Some tree ≡ option_map tree_of (structure_at id bottoms)

-- trees grow by that of an instance's structure, if there is one: they stay right, what was stated stays so, and so is that structure now
pub record GrowsFor (bottoms : Slots) (instance : Option InstanceValue) (before after : Trees) : Type 0 where
  pub right : AreRight bottoms after
  pub kept : (i : InstanceValue) → IsStatedFor bottoms before i → IsStatedFor bottoms after i
  pub there : IfSome instance (IsStatedFor bottoms after)
