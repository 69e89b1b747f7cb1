-- What stands at the places of a tree over items.
use Rattle.std.proofs.Common.{Option, List}
use Rattle.ray_geom.specs.Boxes.{BoxValue}
use Rattle.ray_tree.specs.Trees.{TreeValue, IsShape}
use Rattle.ray_tree.specs.Local.{HasItems}
use Rattle.ray_tree.specs.NodeBoxes.{HasActivity}
use Rattle.ray_tree.proofs.Counting.{has_items, items_once}

-- items have the activity of a tree's where its order has a number of each active item
pub same_activity : (tree : TreeValue) (items : List (Option BoxValue)) → IsShape tree → HasItems tree.order items → HasActivity tree items
same_activity tree items shape has = record { active_once = items_once tree.order items shape.items_once has }

pub same_items : (tree : TreeValue) (items : List (Option BoxValue)) → HasActivity tree items → HasItems tree.order items
same_items tree items same = has_items tree.order items same.active_once
