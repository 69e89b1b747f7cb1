-- Trees that are refitted to new items: what is asked of the items, what refitting gives, and the
-- frame that the climb rule reads of both. (Own.)
use Rattle.std.specs.Prelude.{◌≡◌, ℕ, zero, suc, ◌==◌, ◌||◌, Bool, true, false, if◌then◌else◌, Option, List, length, slice_index}
use Rattle.ray_geom.specs.Boxes.{BoxValue}
use Rattle.ray_tree.specs.declared.node.Node.{Node}
use Rattle.ray_tree.specs.declared.node.Node.TheVariants.{Leaf, Inner}
use Rattle.ray_tree.specs.Shapes.{node_at}
use Rattle.ray_tree.specs.NodeBoxes.{least_box}
use Rattle.ray_tree.specs.Trees.{TreeValue, TreeOver, leaves_of}
use Rattle.ray_climb.specs.Frames.{Frame}
use Rattle.ray_climb.specs.Halves.{low_half, high_half}

-- a tree that is to be refitted, and its new items
pub record RefitValue : Type 0 where
  pub tree : TreeValue
  pub items : List (Option BoxValue)

abbrev pub refit_value : TreeValue → List (Option BoxValue) → RefitValue
refit_value tree items = record { tree = tree; items = items }

-- a tree is what refitting an old one to new items gives: it has the shape of the old one, and the
-- box of each node is the least box of the new items from it down
pub record IsRefit (old : TreeValue) (items : List (Option BoxValue)) (new : TreeValue) : Type 0 where
  pub nodes : new.nodes ≡ old.nodes
  pub order : new.order ≡ old.order
  pub over : TreeOver new items

-- whether a node has children
abbrev pub is_inner : Node → Bool
is_inner (Leaf first count) = false
is_inner (Inner left right) = true

-- its child, the right one or the left one
abbrev pub kid : Node → Bool → ℕ
kid (Leaf first count) right = 0
kid (Inner left right) true = right
kid (Inner left right) false = left

-- whether a number is that of a child of a node
abbrev pub is_kid : ℕ → Node → Bool
is_kid n (Leaf first count) = false
is_kid n (Inner left right) = left == n || right == n

-- the last of so many nodes of which a node is a child
unfoldable pub parent_below : ℕ → List Node → ℕ → ℕ
parent_below zero nodes n = 0
parent_below (suc many) nodes n = if is_kid n (node_at nodes many) then many else parent_below many nodes n

-- the parent of a node
abbrev pub parent_of : List Node → ℕ → ℕ
parent_of nodes n = parent_below (length nodes) nodes n

-- whether a node is its parent's right child
abbrev pub is_right : List Node → ℕ → Bool
is_right nodes n = kid (node_at nodes (parent_of nodes n)) true == n

-- the least box of the new items from a node down
abbrev pub box_over : RefitValue → ℕ → BoxValue
box_over r n = least_box r.items r.tree n

-- what the climb rule reads of a tree and its new items
abbrev pub frame_of : RefitValue → Frame
frame_of r = record {
  nodes = length r.tree.nodes;
  leaves = length (leaves_of r.tree);
  inner = λ n. is_inner (node_at r.tree.nodes n);
  node_of = λ k. slice_index (leaves_of r.tree) k;
  parent = parent_of r.tree.nodes;
  side = is_right r.tree.nodes;
  child = λ n right. kid (node_at r.tree.nodes n) right;
  low = λ n. low_half (box_over r n);
  high = λ n. high_half (box_over r n);
}
