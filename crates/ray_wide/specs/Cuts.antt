-- Cuts through a subtree of a binary tree, from which the children of a wide node are made; no clause of a public
-- call speaks of them. (Own.)
use Rattle.std.specs.Prelude.{◌≡◌, ◌<◌, ◌≤◌, ◌+◌, ℕ, List, [], ◌∷◌, ◌++◌, length, map, drop}
use Rattle.std.specs.List.{All, sum_by}
use Rattle.ray_tree.specs.declared.node.Node.{Node}
use Rattle.ray_tree.specs.declared.node.Node.TheVariants.{Leaf as LeafNode, Inner as InnerNode}
use Rattle.ray_tree.specs.Shapes.{node_at, shape_in}
use Rattle.ray_tree.specs.Waits.{weight}
use Rattle.ray_wide.specs.declared.node.WideRef.{WideRef}
use Rattle.ray_wide.specs.declared.node.WideRef.TheVariants.{Leaf, Inner, Empty}
use Rattle.ray_wide.specs.declared.node.WideNode.{WideNode}
use Rattle.ray_wide.specs.declared.cut.Branch.{Branch}
use Rattle.ray_wide.specs.Subtrees.{IsInnerNode, leaves_at, wide_leaf}
use Rattle.ray_wide.specs.Wides.{IsNodeOver, children_in, top_at, child_at}

-- the leaves of several subtrees, one after the other
abbrev pub leaves_over : List Node → List ℕ → List ℕ
leaves_over nodes [] = []
leaves_over nodes (n ∷ ns) = leaves_at nodes n ++ leaves_over nodes ns

-- how many nodes a subtree has
abbrev pub weight_at : List Node → ℕ → ℕ
weight_at nodes n = weight (shape_in (length nodes) nodes n)

-- the nodes of branches
abbrev pub nodes_in : List Branch → List ℕ
nodes_in branches = map (λ b. b.node) branches

-- a number is that of a node
abbrev pub IsNode : List Node → ℕ → Type 0
IsNode nodes n = n < length nodes

-- subtrees beside each other, 2 to 8, that together are what is below a node
pub record IsCut (nodes : List Node) (top : ℕ) (cut : List ℕ) : Type 0 where
  pub each : All (IsNode nodes) cut
  pub some : 2 ≤ length cut
  pub few : length cut ≤ 8
  pub whole : leaves_over nodes cut ≡ leaves_at nodes top
  pub less : sum_by (weight_at nodes) cut < weight_at nodes top

-- the inner nodes among some
abbrev pub inner_by : ℕ → Node → List ℕ
inner_by n (LeafNode first count) = []
inner_by n (InnerNode left right) = n ∷ []

abbrev pub inners_of : List Node → List ℕ → List ℕ
inners_of nodes [] = []
inners_of nodes (n ∷ ns) = inner_by n (node_at nodes n) ++ inners_of nodes ns

-- a subtree as a child, where the next wide node is number `at`
abbrev pub ref_by : ℕ → ℕ → Node → WideRef
ref_by at n (LeafNode first count) = Leaf (wide_leaf n first count)
ref_by at n (InnerNode left right) = Inner at

-- subtrees as children, the inner ones being wide nodes from number `at` on
abbrev pub refs_of : List Node → ℕ → List ℕ → List WideRef
refs_of nodes at [] = []
refs_of nodes at (n ∷ ns) = ref_by at n (node_at nodes n) ∷ refs_of nodes (at + length (inner_by n (node_at nodes n))) ns

-- eight places, of which these are the first
abbrev pub eight_of : List WideRef → List WideRef
eight_of refs =
    child_at refs 0 ∷ child_at refs 1 ∷ child_at refs 2 ∷ child_at refs 3 ∷
    child_at refs 4 ∷ child_at refs 5 ∷ child_at refs 6 ∷ child_at refs 7 ∷ []

-- wide nodes of which the last ones are still to be made
pub record IsGrowing (nodes : List Node) (wides : List WideNode) (tops : List ℕ) : Type 0 where
  pub made : length wides ≤ length tops
  pub inner : All (IsInnerNode nodes) tops
  pub each : (w : ℕ) → w < length wides → IsNodeOver nodes tops w (children_in wides w)
  pub few : length wides + sum_by (weight_at nodes) (drop (length wides) tops) ≤ length nodes
  pub start : top_at tops 0 ≡ 0

-- how much is still to be made
abbrev pub left_over : List Node → List WideNode → List ℕ → ℕ
left_over nodes wides tops = sum_by (weight_at nodes) (drop (length wides) tops)

-- the root of a wide tree
abbrev pub root_by : Node → WideRef
root_by (LeafNode first count) = Leaf (wide_leaf 0 first count)
root_by (InnerNode left right) = Inner 0

abbrev pub root_of : List Node → WideRef
root_of [] = Empty
root_of (node ∷ nodes) = root_by node

-- the subtrees for which wide nodes are made first
abbrev pub first_tops : WideRef → List ℕ
first_tops Empty = []
first_tops (Leaf leaf) = []
first_tops (Inner w) = 0 ∷ []
