-- The box of an inner node nests those of its two children.
use Rattle.std.proofs.Common.{◌≡◌, sym, subst, ℕ, ◌<◌, Option, Some, option_and_then, List, length}
use Rattle.ray_geom.specs.declared.ratio.Ratio.{Ratio}
use Rattle.ray_geom.specs.Boxes.{BoxValue}
use Rattle.ray_geom.specs.Transform.{identity_value}
use Rattle.ray_geom.specs.ObjectRay.{ObjectRayValue, object_of}
use Rattle.ray_tree.specs.declared.node.Node.TheVariants as nodes
use Rattle.ray_tree.specs.Shapes.{node_at}
use Rattle.ray_tree.specs.Trees.{TreeValue, TreeOver, box_at}
use Rattle.ray_tree.specs.Nesting.{AreInParent}
use Rattle.ray_tree.proofs.Nested.{are_nested}
use Rattle.ray_bottom.specs.Trees.{items_of as bottom_items}
use Rattle.ray_top.specs.Trees.{without_tree, items_of}
use Rattle.ray_nearest.specs.Parts.{Nests}
use Rattle.ray_walk.specs.Traced.{Traced, placement_at, top_entry, entry_of_placement, bottom_entry}
use Rattle.ray_candidates.specs.Placements.{Placement, entry_in}
use Rattle.ray_tree.specs.Trees.{no_box}
use Rattle.ray_bottom.specs.Slots.{IsSound}
use Rattle.ray_walk.proofs.Nesting.{nests_part}

-- in any tree, for any ray
pub record AreNestedFor (object : ObjectRayValue) (tree : TreeValue) (n l r : ℕ) : Type 0 where
  pub left : Nests (entry_in object (box_at tree no_box n)) (entry_in object (box_at tree no_box l))
  pub right : Nests (entry_in object (box_at tree no_box n)) (entry_in object (box_at tree no_box r))

pub are_nested_for : (object : ObjectRayValue) (tree : TreeValue) (items : List (Option BoxValue)) → TreeOver tree items → (n l r : ℕ) → n < length tree.nodes
    → node_at tree.nodes n ≡ nodes.Inner l r → AreNestedFor object tree n l r
are_nested_for object tree items over n l r small is =
    let part : AreInParent tree n l r no_box = (are_nested tree items over).each n l r no_box small is in
    record {
      left = nests_part object (box_at tree no_box l) (box_at tree no_box n) part.left;
      right = nests_part object (box_at tree no_box r) (box_at tree no_box n) part.right;
    }

-- in the top structure's
pub record AreNestedTop (s : Traced) (n l r : ℕ) : Type 0 where
  pub left : Nests (top_entry s n) (top_entry s l)
  pub right : Nests (top_entry s n) (top_entry s r)

pub nests_top : (s : Traced) (n l r : ℕ) → TreeOver s.top.tree (items_of (without_tree s.top)) → n < length s.top.tree.nodes
    → node_at s.top.tree.nodes n ≡ nodes.Inner l r → AreNestedTop s n l r
nests_top s n l r over small is =
    let both : AreNestedFor (object_of s.ray identity_value) s.top.tree n l r =
    are_nested_for (object_of s.ray identity_value) s.top.tree (items_of (without_tree s.top)) over n l r small is in
    record { left = both.left; right = both.right }

-- and in that of a placed structure
pub record AreNestedBottom (s : Traced) (i n l r : ℕ) : Type 0 where
  pub left : Nests (bottom_entry s i n) (bottom_entry s i l)
  pub right : Nests (bottom_entry s i n) (bottom_entry s i r)

-- the entry of a node of an instance with a placement, or without
abbrev entry_with : Traced → ℕ → Option Placement → Option Ratio
entry_with s n o = option_and_then (λ (q : Placement). entry_of_placement s.ray q n) o

pub nests_bottom : (s : Traced) (i n l r : ℕ) (p : Placement) → placement_at s i ≡ Some p → IsSound p.bottom → n < length p.bottom.tree.nodes
    → node_at p.bottom.tree.nodes n ≡ nodes.Inner l r → AreNestedBottom s i n l r
nests_bottom s i n l r p at sound small is =
    let object = object_of s.ray p.instance.matrix in
    let both : AreNestedFor object p.bottom.tree n l r =
    are_nested_for object p.bottom.tree (bottom_items p.bottom.geometries) sound.over n l r small is in
    record {
      left = subst (λ (o : Option Placement). Nests (entry_with s n o) (entry_with s l o)) (sym at) both.left;
      right = subst (λ (o : Option Placement). Nests (entry_with s n o) (entry_with s r o)) (sym at) both.right;
    }
