-- Wide trees over the leaves of a binary tree: each node has 2 to 8 children, each of which stands for a subtree
-- of the binary tree, with their boxes in lanes. (Own.)
use Rattle.std.specs.Prelude.{◌≡◌, ◌<◌, ◌≤◌, ◌+◌, ℕ, Bool, true, false, List, [], ◌∷◌, ◌++◌, length, map, slice_index_or, count_by}
use Rattle.std.specs.List.{All}
use Rattle.ray_geom.specs.Boxes.{BoxValue, box_value}
use Rattle.ray_geom.specs.Vector.{vec3}
use Rattle.ray_lanes.specs.declared.lanes.Lanes8.{Lanes8}
use Rattle.ray_lanes.specs.Overlap.{of_box}
use Rattle.ray_lanes.specs.Padding.{IsPadded}
use Rattle.ray_tree.specs.declared.node.Node.{Node}
use Rattle.ray_tree.specs.Trees.{TreeValue, box_at}
use Rattle.ray_wide.specs.declared.node.WideRef.{WideRef}
use Rattle.ray_wide.specs.declared.node.WideRef.TheVariants.{Leaf, Inner, Empty}
use Rattle.ray_wide.specs.declared.node.WideNode.{WideNode}
use Rattle.ray_wide.specs.Subtrees.{IsInnerNode, IsWideLeaf, leaves_at}

-- a wide tree: its root, its nodes, and for each of these the node of the binary tree for whose subtree it stands
pub record WideValue : Type 0 where
  pub root : WideRef
  pub nodes : List WideNode
  pub tops : List ℕ

-- the wide tree of these
abbrev pub wide_value : WideRef → List WideNode → List ℕ → WideValue
wide_value root nodes tops = record { root = root; nodes = nodes; tops = tops }

-- the children of a node
abbrev pub children_in : List WideNode → ℕ → List WideRef
children_in nodes w = slice_index_or (map (λ n. n.children) nodes) w []

-- its lanes
abbrev pub lanes_in : List WideNode → ℕ → Lanes8
lanes_in nodes w = slice_index_or (map (λ n. n.lanes) nodes) w (record { lo = []; hi = [] })

-- the k-th child of a node
abbrev pub child_at : List WideRef → ℕ → WideRef
child_at children k = slice_index_or children k Empty

-- the node of the binary tree for whose subtree a wide node stands
abbrev pub top_at : List ℕ → ℕ → ℕ
top_at tops w = slice_index_or tops w 0

-- there is a child
abbrev pub is_there : WideRef → Bool
is_there Empty = false
is_there (Leaf leaf) = true
is_there (Inner w) = true

-- the leaves of the subtree for which a child stands, from the left
abbrev pub leaves_for : List Node → List ℕ → WideRef → List ℕ
leaves_for nodes tops Empty = []
leaves_for nodes tops (Leaf leaf) = leaves_at nodes leaf.node
leaves_for nodes tops (Inner w) = leaves_at nodes (top_at tops w)

-- those of several children, one after the other
abbrev pub leaves_below : List Node → List ℕ → List WideRef → List ℕ
leaves_below nodes tops [] = []
leaves_below nodes tops (child ∷ children) = leaves_for nodes tops child ++ leaves_below nodes tops children

-- a child is a leaf of the binary tree, or a wide node from number `from` on
abbrev pub IsChild : List Node → List ℕ → ℕ → WideRef → Type 0
IsChild nodes tops from Empty = Unit {0}
IsChild nodes tops from (Leaf leaf) = IsWideLeaf nodes leaf
IsChild nodes tops from (Inner w) = (from ≤ w) × (w < length tops)

-- the children of wide node w: 2 to 8 in eight places, each wide one after its parent, and their leaves, one after
-- the other, are the leaves of the subtree for which the node stands
pub record IsNodeOver (nodes : List Node) (tops : List ℕ) (w : ℕ) (children : List WideRef) : Type 0 where
  pub eight : length children ≡ 8
  pub some : 2 ≤ count_by is_there children
  pub each : All (IsChild nodes tops (w + 1)) children
  pub top : IsInnerNode nodes (top_at tops w)
  pub whole : leaves_below nodes tops children ≡ leaves_at nodes (top_at tops w)

-- the root: nothing where the tree has no node, its leaf where it has no other node, else wide node 0
abbrev pub IsRoot : List Node → List ℕ → WideRef → Type 0
IsRoot nodes tops Empty = (length nodes ≡ 0) × (length tops ≡ 0)
IsRoot nodes tops (Leaf leaf) = IsWideLeaf nodes leaf × (leaf.node ≡ 0) × (length tops ≡ 0)
IsRoot nodes tops (Inner w) = IsInnerNode nodes 0 × (w ≡ 0) × (0 < length tops) × (top_at tops 0 ≡ 0)

-- a wide tree is over the leaves of a binary one, of which only the nodes are asked
pub record IsCollapsed (wide : WideValue) (nodes : List Node) : Type 0 where
  pub root : IsRoot nodes wide.tops wide.root
  pub topped : length wide.tops ≡ length wide.nodes
  pub few : length wide.nodes ≤ length nodes
  pub each : (w : ℕ) → w < length wide.nodes → IsNodeOver nodes wide.tops w (children_in wide.nodes w)

-- the box of a lane
abbrev pub lane_box : Lanes8 → ℕ → BoxValue
lane_box lanes k =
    box_value (vec3 (of_box lanes.lo 0 k) (of_box lanes.lo 1 k) (of_box lanes.lo 2 k))
    (vec3 (of_box lanes.hi 0 k) (of_box lanes.hi 1 k) (of_box lanes.hi 2 k))

-- lane k is the tree's box of the leaves for which a child stands, or padded where there is no child
abbrev pub IsLane : TreeValue → List ℕ → Lanes8 → ℕ → WideRef → Type 0
IsLane tree tops lanes k Empty = IsPadded lanes k
IsLane tree tops lanes k (Leaf leaf) = (d : BoxValue) → lane_box lanes k ≡ box_at tree d leaf.node
IsLane tree tops lanes k (Inner w) = (d : BoxValue) → lane_box lanes k ≡ box_at tree d (top_at tops w)

-- a wide tree is over a binary one: over its leaves, each lane being so
pub record WideOver (wide : WideValue) (tree : TreeValue) : Type 0 where
  pub collapsed : IsCollapsed wide tree.nodes
  pub lanes : (w k : ℕ) → w < length wide.nodes → k < 8 →
      IsLane tree wide.tops (lanes_in wide.nodes w) k (child_at (children_in wide.nodes w) k)

-- two wide trees differ in their lanes alone
pub record IsSameButLanes (a b : WideValue) : Type 0 where
  pub root : b.root ≡ a.root
  pub tops : b.tops ≡ a.tops
  pub children : map (λ n. n.children) b.nodes ≡ map (λ n. n.children) a.nodes
