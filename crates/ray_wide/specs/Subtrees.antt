-- Leaves, inner nodes and subtrees of a binary tree, by the numbers of its nodes. (Own.)
use Rattle.std.specs.Prelude.{◌≡◌, ◌<◌, ℕ, List, length}
use Rattle.ray_tree.specs.declared.node.Node.{Node}
use Rattle.ray_tree.specs.declared.node.Node.TheVariants.{Leaf, Inner}
use Rattle.ray_tree.specs.Shapes.{node_at, shape_in, tips}
use Rattle.ray_tree.specs.Local.{IsLeaf}
use Rattle.ray_wide.specs.declared.node.WideLeaf.{WideLeaf}

-- a node has two nodes below it
abbrev pub IsInner : Node → Type 0
IsInner (Leaf first count) = ⊥
IsInner (Inner left right) = Unit {0}

-- a number is that of a leaf
pub record IsLeafNode (nodes : List Node) (n : ℕ) : Type 0 where
  pub small : n < length nodes
  pub leaf : IsLeaf (node_at nodes n)

-- a leaf with these numbers
abbrev pub wide_leaf : ℕ → ℕ → ℕ → WideLeaf
wide_leaf node first count = record { node = node; first = first; count = count }

-- a leaf is one of the tree, with its places there
pub record IsWideLeaf (nodes : List Node) (leaf : WideLeaf) : Type 0 where
  pub node : IsLeafNode nodes leaf.node
  pub same : node_at nodes leaf.node ≡ Leaf leaf.first leaf.count

-- a number is that of a node with two nodes below it
pub record IsInnerNode (nodes : List Node) (n : ℕ) : Type 0 where
  pub small : n < length nodes
  pub inner : IsInner (node_at nodes n)

-- the leaves from a node down, from the left
abbrev pub leaves_at : List Node → ℕ → List ℕ
leaves_at nodes n = tips (shape_in (length nodes) nodes n)
