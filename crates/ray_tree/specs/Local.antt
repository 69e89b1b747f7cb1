-- Least boxes node by node, which the proofs go by, and what is known of one node: what it names is there
-- (`IsFit`), and a number is that of a leaf (`IsLeafAt`). (Own.)
use Rattle.std.specs.Prelude.{◌≡◌, ◌<◌, ◌≤◌, ◌+◌, ◌^◌, ℕ, Option, List, length, slice_index_or}
use Rattle.std.specs.List.{All}
use Rattle.ray_geom.specs.Boxes.{BoxValue}
use Rattle.ray_geom.specs.LeastBoxes.{HoldsBoxes, IsLeast, union_of}
use Rattle.ray_tree.specs.declared.node.Node.{Node}
use Rattle.ray_tree.specs.declared.node.Node.TheVariants.{Leaf, Inner}
use Rattle.ray_tree.specs.Shapes.{node_at}
use Rattle.ray_tree.specs.Trees.{TreeValue, IsShape, boxes_in, leaves_of, active, active_of}

-- a box is that of a leaf's items, or the union of the boxes of the two children
abbrev pub IsLocal : List (Option BoxValue) → List ℕ → List BoxValue → BoxValue → Node → Type 0
IsLocal items order boxes box (Leaf first count) = IsLeast (HoldsBoxes (boxes_in items order first count)) box
IsLocal items order boxes box (Inner left right) =
    (other : BoxValue) → box ≡ union_of (slice_index_or boxes left other) (slice_index_or boxes right other)

-- the box of a node is so
abbrev pub IsLocalAt : List (Option BoxValue) → List ℕ → List BoxValue → List Node → ℕ → Type 0
IsLocalAt items order boxes nodes n = (d : BoxValue) → IsLocal items order boxes (slice_index_or boxes n d) (node_at nodes n)

-- each box is so
pub record AreLocal (items : List (Option BoxValue)) (order : List ℕ) (boxes : List BoxValue) (nodes : List Node) : Type 0 where
  pub each : (n : ℕ) → n < length nodes → IsLocalAt items order boxes nodes n

-- an item is active
abbrev pub IsActive : List (Option BoxValue) → ℕ → Type 0
IsActive items p = active items p ≡ 1

-- what a node names is there
abbrev pub IsFit : ℕ → ℕ → Node → Type 0
IsFit places nodes (Leaf first count) = (0 < count) × (count ≤ 4) × (first + count ≤ places)
IsFit places nodes (Inner left right) = (left < nodes) × (right < nodes)

-- and so for each node
pub record AreFit (places : ℕ) (nodes : List Node) : Type 0 where
  pub each : (n : ℕ) → n < length nodes → IsFit places (length nodes) (node_at nodes n)

-- a number of each item that is active
pub record HasItems (order : List ℕ) (items : List (Option BoxValue)) : Type 0 where
  pub many : length order ≡ active_of items
  pub each : All (IsActive items) order

-- what a tree keeps: its leaves beside it, and numbers that fit
pub record IsKept (tree : TreeValue) (leaves : List ℕ) : Type 0 where
  pub shape : IsShape tree
  pub listed : leaves ≡ leaves_of tree
  pub few_places : length tree.order ≤ 2 ^ 20
  pub few_nodes : length tree.nodes < 2 ^ 32
  pub few_leaves : length leaves < 2 ^ 32

-- a node is a leaf
abbrev pub IsLeaf : Node → Type 0
IsLeaf (Leaf first count) = Unit {0}
IsLeaf (Inner left right) = ⊥

-- a number is that of a leaf
pub record IsLeafAt (tree : TreeValue) (n : ℕ) : Type 0 where
  pub small : n < length tree.nodes
  pub leaf : IsLeaf (node_at tree.nodes n)
