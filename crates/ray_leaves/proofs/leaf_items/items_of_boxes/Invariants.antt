use Rattle.std.proofs.Common.{◌≡◌, take, map}
use Rattle.ray_leaves.specs.LeafItems.{item_of_boxes}
use Rattle.ray_leaves.proofs.leaf_items.items_of_boxes.Given as goal

-- the places so far
abbrev pub invariant-loop-place : goal.invariant-loop-place
invariant-loop-place l = l.items.items ≡ map (item_of_boxes l.boxes) (take l.place-index l.places)
