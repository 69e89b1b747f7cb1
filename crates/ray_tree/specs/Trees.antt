-- Trees over items, some of them inactive: each active item stands in one leaf, and each box is the
-- least box of the items below it. (Own.)
use Rattle.std.specs.Prelude.{pos, ◌≡◌, ◌<◌, ◌≤◌, ◌==◌, ◌++◌, ℕ, if◌then◌else◌, Option, None, is_some, List, [], ◌∷◌, length, take, drop, slice_index_or, count_by}
use Rattle.std.specs.Option.{option_to_list}
use Rattle.ray_geom.specs.Boxes.{BoxValue, box_value}
use Rattle.ray_geom.specs.Vector.{vec3}
use Rattle.ray_geom.specs.LeastBoxes.{HoldsBoxes, IsLeast}
use Rattle.ray_tree.specs.declared.node.Node.{Node}
use Rattle.ray_tree.specs.Shapes.{Shape, Gone, Tip, Fork, shape_in, gone, visits, holds, inside, AreFew, tips}

-- a tree: its nodes, the root being node 0, the box of each node, and the item of each place
pub record TreeValue : Type 0 where
  pub nodes : List Node
  pub boxes : List BoxValue
  pub order : List ℕ

-- the tree of these
abbrev pub tree_value : List Node → List BoxValue → List ℕ → TreeValue
tree_value nodes boxes order = record { nodes = nodes; boxes = boxes; order = order }

-- what is from a node down: no way down has more nodes than there are
abbrev pub shape_at : TreeValue → ℕ → Shape
shape_at tree n = shape_in (length tree.nodes) tree.nodes n

-- its leaves, from the left
abbrev pub leaves_of : TreeValue → List ℕ
leaves_of tree = tips (shape_at tree 0)

-- the item of a place
abbrev pub item_at : TreeValue → ℕ → ℕ
item_at tree at = slice_index_or tree.order at 0

-- a box to stand for one that is missing
abbrev pub no_box : BoxValue
no_box = box_value (vec3 (pos 0) (pos 0) (pos 0)) (vec3 (pos 0) (pos 0) (pos 0))

-- the box of a node, where d stands for one that is missing
abbrev pub box_at : TreeValue → BoxValue → ℕ → BoxValue
box_at tree d n = slice_index_or tree.boxes n d

-- the box of an active item
abbrev pub item_box : List (Option BoxValue) → ℕ → Option BoxValue
item_box items p = slice_index_or items p None

-- 1 for an active item, and 0 for any other number
abbrev pub active : List (Option BoxValue) → ℕ → ℕ
active items p = if is_some (item_box items p) then 1 else 0

-- how many items are active
abbrev pub active_of : List (Option BoxValue) → ℕ
active_of items = count_by is_some items

-- how often a number stands in a list
abbrev pub times : ℕ → List ℕ → ℕ
times p numbers = count_by (λ q. q == p) numbers

-- the items of the leaves from a node down, from the leftmost leaf on
abbrev pub items_below : List ℕ → Shape → List ℕ
items_below order Gone = []
items_below order (Tip node first count) = take count (drop first order)
items_below order (Fork node left right) = items_below order left ++ items_below order right

-- the boxes of these items, in order
abbrev pub boxes_of : List (Option BoxValue) → List ℕ → List BoxValue
boxes_of items [] = []
boxes_of items (p ∷ ps) = option_to_list (item_box items p) ++ boxes_of items ps

-- the boxes of the items at the places of a leaf
abbrev pub boxes_in : List (Option BoxValue) → List ℕ → ℕ → ℕ → List BoxValue
boxes_in items order first count = boxes_of items (take count (drop first order))

-- the boxes of all items from a node down
abbrev pub boxes_below : List (Option BoxValue) → List ℕ → Shape → List BoxValue
boxes_below items order Gone = []
boxes_below items order (Tip node first count) = boxes_in items order first count
boxes_below items order (Fork node left right) = boxes_below items order left ++ boxes_below items order right

-- the nodes are a tree over the places: from the root down each node is reached once and each place is in one
-- leaf, a leaf has 1 to 4 places, each node has a box, and no item has two places
pub record IsShape (tree : TreeValue) : Type 0 where
  pub ends : 0 < length tree.nodes → gone (shape_at tree 0) ≡ 0
  pub nodes_once : (n : ℕ) → visits n (shape_at tree 0) ≡ inside n 0 (length tree.nodes)
  pub places_once : (at : ℕ) → holds at (shape_at tree 0) ≡ inside at 0 (length tree.order)
  pub few : AreFew (shape_at tree 0)
  pub boxed : length tree.boxes ≡ length tree.nodes
  pub items_once : (p : ℕ) → times p tree.order ≤ 1

-- a tree over items: each active item has one place and no other number has any, and each node's box is the
-- least box of the items from it down. So there is no root without an active item
pub record TreeOver (tree : TreeValue) (items : List (Option BoxValue)) : Type 0 where
  pub shape : IsShape tree
  pub active_once : (p : ℕ) → times p tree.order ≡ active items p
  pub least : (n : ℕ) (d : BoxValue) → n < length tree.nodes →
      IsLeast (HoldsBoxes (boxes_below items tree.order (shape_at tree n))) (box_at tree d n)
