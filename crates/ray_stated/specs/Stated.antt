-- The stated tree: the tree by halves whose items stand in the stated order. It is a function of the boxes. (Own.)
use Rattle.std.specs.Prelude.{◌+◌, ◌++◌, ℕ, pos, zero, suc, Option, List, [], ◌∷◌, length, unwrap_or}
use Rattle.ray_geom.specs.Vector.{vec3}
use Rattle.ray_geom.specs.Boxes.{BoxValue, box_value}
use Rattle.ray_geom.specs.LeastBoxes.{box_of_boxes, union_of}
use Rattle.ray_tree.specs.Trees.{TreeValue, tree_value, boxes_in, no_box}
use Rattle.ray_tree.specs.Plans.{Plan, Few, Both, places_of, spell, halves}
use Rattle.ray_stated.specs.Order.{stated_order}

-- the least box of the items at the places of a leaf
abbrev pub leaf_box : List (Option BoxValue) → List ℕ → ℕ → ℕ → BoxValue
leaf_box items order first count = unwrap_or (box_of_boxes (boxes_in items order first count)) no_box

-- the box of the root of a tree over places from `first` on: that of a leaf is the least box of its items, any other
-- the union of its children's (own)
abbrev pub root_box : List (Option BoxValue) → List ℕ → ℕ → Plan → BoxValue
root_box items order first (Few count) = leaf_box items order first count
root_box items order first (Both left right) =
    union_of (root_box items order first left) (root_box items order (first + places_of left) right)

-- the boxes of all its nodes, in the order in which the nodes are spelled
abbrev pub node_boxes : List (Option BoxValue) → List ℕ → ℕ → Plan → List BoxValue
node_boxes items order first (Few count) = root_box items order first (Few count) ∷ []
node_boxes items order first (Both left right) =
    root_box items order first (Both left right)
    ∷ (node_boxes items order first left ++ node_boxes items order (first + places_of left) right)

-- the tree that a plan spells over items in an order
abbrev pub planned_tree : List (Option BoxValue) → List ℕ → Plan → TreeValue
planned_tree items order plan = tree_value (spell 0 0 plan) (node_boxes items order 0 plan) order

-- the tree by halves over so many items in an order; it has no node where there is none (own)
unfoldable pub halved_tree : List (Option BoxValue) → List ℕ → ℕ → TreeValue
halved_tree items order zero = tree_value [] [] order
halved_tree items order (suc n) = planned_tree items order (halves 18 (suc n))

-- the stated tree over items, some of them inactive (own)
abbrev pub stated_tree : List (Option BoxValue) → TreeValue
stated_tree items = let order = stated_order items in halved_tree items order (length order)
