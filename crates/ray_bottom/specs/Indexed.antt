-- Words of private types alone: what stands beside the contents of a bottom structure.
use Rattle.std.specs.Prelude.{◌≡◌, List, map}
use Rattle.ray_tree.specs.Trees.{TreeOver}
use Rattle.ray_wide.specs.Wides.{WideOver}
use Rattle.ray_leaves.specs.declared.prim_place.PrimPlace.{PrimPlace}
use Rattle.ray_leaves.specs.declared.leaf_list.LeafList.{LeafList}
use Rattle.ray_bottom.specs.Trees.{BottomWithTree, items_of, places_in_order}
use Rattle.ray_leaves.specs.LeafItems.{item_at}
use Rattle.ray_leaves.specs.Lists.{items_in}

-- a tree over the items, a wide one over its leaves, and in its order the places and the primitives
pub record IsIndexed (bottom : BottomWithTree) (places : List PrimPlace) (leaf_items : LeafList) : Type 0 where
  pub over : TreeOver bottom.tree (items_of bottom.geometries)
  pub wide : WideOver bottom.wide bottom.tree
  pub places_are : places ≡ places_in_order bottom
  pub leaf_items_are : items_in leaf_items ≡ map (item_at bottom.geometries) places
