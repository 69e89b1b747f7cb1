-- The least boxes of nodes over items, as functions: what a tree over these items has as the boxes of its nodes. (Own.)
use Rattle.std.specs.Prelude.{◌≡◌, ℕ, Option, Some, unwrap_or, List}
use Rattle.ray_geom.specs.Boxes.{BoxValue, IsBox}
use Rattle.ray_geom.specs.LeastBoxes.{box_of_boxes}
use Rattle.ray_tree.specs.Trees.{TreeValue, shape_at, no_box, item_box, active, boxes_below, times}

-- the items have the activity of a tree's: each active one has one place, and no other number any
pub record HasActivity (tree : TreeValue) (items : List (Option BoxValue)) : Type 0 where
  pub active_once : (p : ℕ) → times p tree.order ≡ active items p

-- the box of each active item is within the limits
pub record AreBoxes (items : List (Option BoxValue)) : Type 0 where
  pub each : (p : ℕ) (b : BoxValue) → item_box items p ≡ Some b → IsBox b

-- the least box of the items from a node down
unfoldable pub least_box : List (Option BoxValue) → TreeValue → ℕ → BoxValue
least_box items tree n = unwrap_or (box_of_boxes (boxes_below items tree.order (shape_at tree n))) no_box
