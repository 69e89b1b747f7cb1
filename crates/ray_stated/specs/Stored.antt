-- Trees as they are stored: a list of nodes in preorder, and the items' numbers in the order of the leaves. What is
-- listed may carry a tree over items, and then one alone. (Own.)
use Rattle.std.specs.Prelude.{◌≡◌, ◌+◌, ◌≤◌, ℕ, max, Option, List, [], ◌∷◌, length}
use Rattle.ray_geom.specs.Boxes.{BoxValue}
use Rattle.ray_tree.specs.declared.node.Node.{Node}
use Rattle.ray_tree.specs.declared.node.Node.TheVariants.{Leaf, Inner}
use Rattle.ray_tree.specs.Trees.{TreeValue, TreeOver}
use Rattle.ray_tree.specs.Plans.{Plan, Few, Both, places_of, spell, AreSmall, height_of}
use Rattle.ray_stated.specs.declared.stored.StoredNode.{StoredNode}

-- a node with its box as it is stored: of a leaf how many items it has and the place of the first one, of an inner
-- node 0 and the number of its right child; its left child is the next node (own)
abbrev pub stored_of : Node → BoxValue → StoredNode
stored_of (Leaf first count) box = record { bounds = box; count = count; link = first }
stored_of (Inner left right) box = record { bounds = box; count = 0; link = right }

-- all nodes with their boxes
abbrev pub stored_all : List Node → List BoxValue → List StoredNode
stored_all [] boxes = []
stored_all (node ∷ nodes) [] = []
stored_all (node ∷ nodes) (box ∷ boxes) = stored_of node box ∷ stored_all nodes boxes

-- nodes are in preorder, their leaves' places following each other: they spell a plan over so many places, of leaves
-- of 1 to 4 and at most 96 levels (own)
pub record IsSpelled (nodes : List Node) (places : ℕ) : Type 0 where
  pub plan : Plan
  pub low : height_of plan ≤ 96
  pub small : AreSmall plan
  pub nodes_are : nodes ≡ spell 0 0 plan
  pub full : places_of plan ≡ places

-- so they are, or there is neither a node nor a place
pub data IsPreorder (nodes : List Node) (places : ℕ) : Type 0 where
  IsEmpty : nodes ≡ [] → places ≡ 0 → IsPreorder nodes places
  IsRooted : IsSpelled nodes places → IsPreorder nodes places

-- stored nodes and an order carry this tree over the items: they are its spelling in preorder, and it is a tree over
-- these items (own)
pub record IsCarried (stored : List StoredNode) (order : List ℕ) (items : List (Option BoxValue)) (tree : TreeValue) : Type 0 where
  pub nodes : stored ≡ stored_all tree.nodes tree.boxes
  pub places : order ≡ tree.order
  pub preorder : IsPreorder tree.nodes (length tree.order)
  pub over : TreeOver tree items
