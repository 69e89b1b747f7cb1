-- What the program walks: the same scene by the nodes of wide trees, with eight children and fewer levels. What is found in it, and what a
-- walk opens, is that of the binary trees. (Own.)
--
-- By hand, for a tree of five boxes in two leaves: in the binary tree an inner node stands above both leaves, and in the wide tree wide
-- node 0, whose children are the same leaves; `narrow` of wide node 0 is node 0.
use Rattle.std.specs.Prelude.{ℕ, ◌≡◌, ◌<◌, ◌+◌, ◌-◌, ◌^◌, Option, Some, None, List, [], ◌∷◌, length}
use Rattle.std.specs.List.{flat_map}
use Rattle.ray_geom.specs.declared.ratio.Ratio.{Ratio}
use Rattle.ray_wide.specs.declared.node.WideRef.{WideRef}
use Rattle.ray_wide.specs.declared.node.WideRef.TheVariants as wides
use Rattle.ray_wide.specs.Wides.{WideValue, children_in, top_at}
use Rattle.ray_nearest.specs.declared.node.WalkNode.{WalkNode}
use Rattle.ray_nearest.specs.declared.node.WalkNode.TheVariants.{TopInner, TopLeaf, Inner, Leaf}
use Rattle.ray_nearest.specs.Parts.{SceneParts, scene_of}
use Rattle.ray_nearest.specs.Scene.{SceneValue}
use Rattle.ray_walk.specs.declared.level.Level.{Level}
use Rattle.ray_walk.specs.declared.level.Level.TheVariants.{World, Object}
use Rattle.ray_walk.specs.Traced.{Traced, IsBottomNode, IsTopNode, entry, finds, placement_at, tests}
use Rattle.ray_candidates.specs.Placements.{Placement, items_at}

-- ---- the nodes of binary trees for whose subtrees wide ones stand

abbrev pub subtree_of : ℕ → Option Placement → ℕ
subtree_of w None = 0
subtree_of w (Some p) = top_at p.bottom.wide.tops w

-- a wide node as the node of the binary tree whose box it has; leaves are named as they are there
abbrev pub narrow : Traced → WalkNode → WalkNode
narrow s (TopInner w) = TopInner (top_at s.top.wide.tops w)
narrow s (TopLeaf n) = TopLeaf n
narrow s (Inner i w) = Inner i (subtree_of w (placement_at s i))
narrow s (Leaf i n) = Leaf i n

-- ---- nodes below

-- a leaf and a wide node of the structure at a level, as the walk names them
abbrev pub leaf_at : Level → ℕ → WalkNode
leaf_at World n = TopLeaf n
leaf_at (Object i) n = Leaf i n

abbrev pub inner_at : Level → ℕ → WalkNode
inner_at World w = TopInner w
inner_at (Object i) w = Inner i w

-- a child of a wide node, or the root
abbrev pub child : Level → WideRef → List WalkNode
child level wides.Empty = []
child level (wides.Leaf leaf) = leaf_at level leaf.node ∷ []
child level (wides.Inner w) = inner_at level w ∷ []

abbrev pub root_by : ℕ → Option Placement → List WalkNode
root_by i None = []
root_by i (Some p) = child (Object i) p.bottom.wide.root

abbrev pub wide_roots : Traced → ℕ → List WalkNode
wide_roots s i = root_by i (placement_at s i)

abbrev pub below_by : ℕ → ℕ → Option Placement → List WalkNode
below_by i w None = []
below_by i w (Some p) = flat_map (child (Object i)) (children_in p.bottom.wide.nodes w)

-- the nodes right below a node
abbrev pub wide_below : Traced → WalkNode → List WalkNode
wide_below s (TopInner w) = flat_map (child World) (children_in s.top.wide.nodes w)
wide_below s (TopLeaf n) = flat_map (wide_roots s) (items_at s.top.tree n)
wide_below s (Inner i w) = below_by i w (placement_at s i)
wide_below s (Leaf i n) = []

-- ---- the scene

abbrev pub wide_entry : Traced → WalkNode → Option Ratio
wide_entry s n = entry s (narrow s n)

-- a number that falls from a node to those below: how many wide nodes come after it, and for the top structure more than any bottom
-- structure has
abbrev pub later_than : ℕ → WideValue → ℕ
later_than w wide = length wide.nodes - w

abbrev pub rank_by : ℕ → Option Placement → ℕ
rank_by w None = 0
rank_by w (Some p) = 1 + later_than w p.bottom.wide

abbrev pub wide_rank : Traced → WalkNode → ℕ
wide_rank s (TopInner w) = 2 ^ 22 + (3 + later_than w s.top.wide)
wide_rank s (TopLeaf n) = 2 ^ 22 + 2
wide_rank s (Inner i w) = rank_by w (placement_at s i)
wide_rank s (Leaf i n) = 0

abbrev pub wide_parts : Traced → SceneParts
wide_parts s = record {
  roots = child World s.top.wide.root;
  entry = wide_entry s;
  below = wide_below s;
  finds = λ n. finds s (narrow s n);
  tests = λ n. tests s (narrow s n);
  rank = wide_rank s;
}

unfoldable pub wide_scene : Traced → SceneValue
wide_scene s = scene_of (wide_parts s)

-- the nodes that it has
pub record IsWideTop (s : Traced) (w : ℕ) : Type 0 where
  pub there : w < length s.top.wide.nodes

pub record IsWideBottom (s : Traced) (i w : ℕ) : Type 0 where
  pub placement : Placement
  pub is_it : placement_at s i ≡ Some placement
  pub there : w < length placement.bottom.wide.nodes

abbrev pub IsWideNode : Traced → WalkNode → Type 0
IsWideNode s (TopInner w) = IsWideTop s w
IsWideNode s (TopLeaf n) = IsTopNode s n
IsWideNode s (Inner i w) = IsWideBottom s i w
IsWideNode s (Leaf i n) = IsBottomNode s i n
