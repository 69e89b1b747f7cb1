-- The tree that stored nodes and an order carry, as a function of them. A stored node and its number determine a node,
-- so all that is left to know are tests of what these nodes are. (Own.)
use Rattle.std.specs.Prelude.{◌≡◌, ◌+◌, ◌==◌, ◌&&◌, ◌↔◌, ◌⊎◌, ◌≤◌, ℕ, Bool, true, false, zero, suc, nat_le, if◌then◌else◌, Option, Some, None, Result, Ok, Err, is_some, List, [], ◌∷◌, length, map, slice_get, slice_index_or}
use Rattle.std.specs.List.{list_all}
use Rattle.ray_geom.specs.Boxes.{BoxValue}
use Rattle.ray_geom.specs.Equality.{box_eq}
use Rattle.ray_geom.specs.LeastBoxes.{union_of}
use Rattle.ray_tree.specs.declared.node.Node.{Node}
use Rattle.ray_tree.specs.declared.node.Node.TheVariants.{Leaf, Inner}
use Rattle.ray_tree.specs.Shapes.{node_at, levels}
use Rattle.ray_tree.specs.Trees.{TreeValue, tree_value, shape_at, box_at, item_box, times, active}
use Rattle.ray_stated.specs.declared.stored.StoredNode.{StoredNode}
use Rattle.ray_stated.specs.declared.walk.Ends.{Ends}
use Rattle.ray_stated.specs.declared.tree_fault.TreeFault.{TreeFault}
use Rattle.ray_stated.specs.declared.tree_fault.TreeFault.TheVariants.{NotTree, NoMemory}
use Rattle.ray_tree.specs.Trees.{no_box}
use Rattle.ray_stated.specs.Stated.{leaf_box, stated_tree}
use Rattle.ray_stated.specs.Stored.{stored_all, IsCarried}

-- the node that is stored under a number
abbrev pub node_of : ℕ → StoredNode → Node
node_of n stored = if stored.count == 0 then Inner (n + 1) stored.link else Leaf stored.link stored.count

-- the nodes that are stored under the numbers from n on
abbrev pub nodes_from : ℕ → List StoredNode → List Node
nodes_from n [] = []
nodes_from n (stored ∷ more) = node_of n stored ∷ nodes_from (n + 1) more

-- what is stored, as nodes, boxes and an order, whether that is a tree or not (own)
abbrev pub read_as : List StoredNode → List ℕ → TreeValue
read_as stored order = tree_value (nodes_from 0 stored) (map (λ s. s.bounds) stored) order

-- the node and the place after those from a node down
abbrev pub ends : ℕ → ℕ → Ends
ends node place = record { node = node; place = place }

-- after a leaf that begins at the next place and has 1 to 4
abbrev pub after_leaf : ℕ → ℕ → ℕ → ℕ → Option Ends
after_leaf at place first count =
    if first == place && (nat_le 1 count && nat_le count 4) then Some (ends (at + 1) (first + count)) else None

-- after a right child that stands behind all that is from the left one down
abbrev pub after_left : (ℕ → ℕ → Option Ends) → ℕ → Option Ends → Option Ends
after_left below right None = None
after_left below right (Some e) = if right == e.node then below e.node e.place else None

-- after a node, where it is known what is after each node below it
abbrev pub after_node : (ℕ → ℕ → Option Ends) → ℕ → ℕ → Option Node → Option Ends
after_node below at place None = None
after_node below at place (Some (Leaf first count)) = after_leaf at place first count
after_node below at place (Some (Inner left right)) =
    if left == at + 1 then after_left below right (below (at + 1) place) else None

-- the node and the place after all from a node down, whose places begin with this one; none where the nodes there
-- aren't in preorder, or have more than so many levels (own)
unfoldable pub walked : ℕ → List Node → ℕ → ℕ → Option Ends
walked zero nodes at place = None
walked (suc levels) nodes at place = after_node (walked levels nodes) at place (slice_get nodes at)

-- whether these are so many nodes and places
abbrev pub are_all : Option Ends → ℕ → ℕ → Bool
are_all None nodes places = false
are_all (Some e) nodes places = e.node == nodes && e.place == places

-- whether all nodes are in preorder over so many places, in at most 96 levels (own)
abbrev pub in_preorder : List Node → ℕ → Bool
in_preorder [] places = places == 0
in_preorder (node ∷ nodes) places = are_all (walked 96 (node ∷ nodes) 0 0) (length (node ∷ nodes)) places

-- whether each number below n passes a test
abbrev pub all_below : ℕ → (ℕ → Bool) → Bool
all_below zero test = true
all_below (suc n) test = test n && all_below n test

-- whether an order has each active item once, and nothing else (own)
abbrev pub each_once : List (Option BoxValue) → List ℕ → Bool
each_once items order =
    list_all (λ p. is_some (item_box items p)) order && all_below (length items) (λ p. times p order == active items p)

-- the least box of a node: that of its items, or the union of its children's
abbrev pub due_box : List (Option BoxValue) → List ℕ → List BoxValue → Node → BoxValue
due_box items order boxes (Leaf first count) = leaf_box items order first count
due_box items order boxes (Inner left right) =
    union_of (slice_index_or boxes left no_box) (slice_index_or boxes right no_box)

-- whether each node has this box
abbrev pub all_due : List (Option BoxValue) → TreeValue → Bool
all_due items tree =
    all_below (length tree.nodes) (λ n. box_eq (box_at tree no_box n) (due_box items tree.order tree.boxes (node_at tree.nodes n)))

-- whether nodes, boxes and an order are a tree over these items, in preorder and at most 96 levels (own)
abbrev pub is_tree : List (Option BoxValue) → TreeValue → Bool
is_tree items tree = in_preorder tree.nodes (length tree.order) && (each_once items tree.order && all_due items tree)

-- the tree that stored nodes and an order carry, if they carry one (own)
abbrev pub carried : List StoredNode → List ℕ → List (Option BoxValue) → Option TreeValue
carried stored order items = if is_tree items (read_as stored order) then Some (read_as stored order) else None

-- what reading stored nodes and an order gives: the tree that they carry; that they carry none; or want of memory (own)
abbrev pub IsRead : List StoredNode → List ℕ → List (Option BoxValue) → Result TreeValue TreeFault → Type 0
IsRead stored order items (Ok tree) = IsCarried stored order items tree
IsRead stored order items (Err NotTree) = (t : TreeValue) → IsCarried stored order items t → ⊥
IsRead stored order items (Err NoMemory) = Unit {0}

-- `carried` gives a tree exactly where the nodes and the order carry it
abbrev pub CarriedAsSaid : List StoredNode → List ℕ → List (Option BoxValue) → Type 0
CarriedAsSaid stored order items = (t : TreeValue) → (carried stored order items ≡ Some t) ↔ IsCarried stored order items t

-- they carry no two trees
abbrev pub CarriedIsOne : List StoredNode → List ℕ → List (Option BoxValue) → Type 0
CarriedIsOne stored order items = (t u : TreeValue) → IsCarried stored order items t → IsCarried stored order items u → t ≡ u

-- what they carry has at most 96 levels
abbrev pub CarriedIsLow : List StoredNode → List ℕ → List (Option BoxValue) → Type 0
CarriedIsLow stored order items = (t : TreeValue) → IsCarried stored order items t → levels (shape_at t 0) ≤ 96

-- the stated tree is carried by its spelling
abbrev pub StatedIsCarried : List (Option BoxValue) → Type 0
StatedIsCarried items = let t = stated_tree items in IsCarried (stored_all t.nodes t.boxes) t.order items t

-- a tree is read from its spelling as itself, if there is memory
abbrev pub IsReadBack : TreeValue → List (Option BoxValue) → Type 0
IsReadBack tree items = (result : Result TreeValue TreeFault) → IsRead (stored_all tree.nodes tree.boxes) tree.order items result
    → (result ≡ Ok tree) ⊎ (result ≡ Err NoMemory)
