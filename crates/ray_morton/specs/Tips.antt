-- Boxes of the leaves alone, and those of nodes by their children's; no clause of a public call speaks of them. (Own.)
use Rattle.std.specs.Prelude.{◌≡◌, ◌<◌, ℕ, Option, List, slice_index_or}
use Rattle.ray_geom.specs.Boxes.{BoxValue}
use Rattle.ray_geom.specs.LeastBoxes.{HoldsBoxes, IsLeast, union_of}
use Rattle.ray_tree.specs.declared.node.Node.{Node}
use Rattle.ray_tree.specs.declared.node.Node.TheVariants.{Leaf, Inner}
use Rattle.ray_tree.specs.Shapes.{node_at}
use Rattle.ray_tree.specs.Trees.{boxes_in}

-- a box is that of the items of the node, if it is a leaf
abbrev pub IsTip : List (Option BoxValue) → List ℕ → BoxValue → Node → Type 0
IsTip items order box (Leaf first count) = IsLeast (HoldsBoxes (boxes_in items order first count)) box
IsTip items order box (Inner left right) = Unit {0}

-- and so are those of the first nodes
pub record AreTips (items : List (Option BoxValue)) (order : List ℕ) (boxes : List BoxValue) (nodes : List Node) (below : ℕ) : Type 0 where
  pub each : (n : ℕ) → n < below → (d : BoxValue) → IsTip items order (slice_index_or boxes n d) (node_at nodes n)

-- a box is the one that a leaf has, or the union of the boxes of the two children
abbrev pub IsJoin : List BoxValue → ℕ → BoxValue → Node → Type 0
IsJoin boxes n box (Leaf first count) = (d : BoxValue) → box ≡ slice_index_or boxes n d
IsJoin boxes n box (Inner left right) = (d : BoxValue) → box ≡ union_of (slice_index_or boxes left d) (slice_index_or boxes right d)

-- the children of a node have boxes
abbrev pub HasJoin : ℕ → Node → Type 0
HasJoin boxes (Leaf first count) = Unit {0}
HasJoin boxes (Inner left right) = (left < boxes) × (right < boxes)
