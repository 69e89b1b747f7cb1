-- What the walk down a wide tree goes by: the ways from the root to the leaves, and the boxes on them. (Own.)
use Rattle.std.specs.Prelude.{◌≡◌, ◌<◌, ◌+◌, ℕ, zero, suc, true, Option, Some, List, [], ◌∷◌, ◌++◌, length}
use Rattle.ray_geom.specs.Boxes.{BoxValue, IsPart}
use Rattle.ray_tree.specs.Shapes.{holds}
use Rattle.ray_tree.specs.Trees.{TreeValue, shape_at, box_at, item_at, item_box, times, leaves_of}
use Rattle.ray_tree.specs.Local.{IsLeafAt}
use Rattle.ray_wide.specs.declared.node.WideLeaf.{WideLeaf}
use Rattle.ray_wide.specs.declared.node.WideRef.{WideRef}
use Rattle.ray_wide.specs.declared.node.WideRef.TheVariants.{Leaf, Inner, Empty}
use Rattle.ray_wide.specs.Wides.{WideValue, children_in, lanes_in, child_at, is_there, top_at, lane_box}

-- the leaves to which ways lead from several children, where it is known to which they lead from one
abbrev pub all_from : (WideRef → List ℕ) → List WideRef → List ℕ
all_from below [] = []
all_from below (child ∷ children) = below child ++ all_from below children

-- the leaves to which ways lead from a child, where it is known of the children of wide nodes
abbrev pub step_from : (WideRef → List ℕ) → WideValue → WideRef → List ℕ
step_from below wide Empty = []
step_from below wide (Leaf leaf) = leaf.node ∷ []
step_from below wide (Inner w) = all_from below (children_in wide.nodes w)

-- over at most so many nodes, one leaf for each way
unfoldable pub leaves_in : ℕ → WideValue → WideRef → List ℕ
leaves_in zero wide child = []
leaves_in (suc k) wide child = step_from (leaves_in k wide) wide child

-- no way has more wide nodes than there are, and then a leaf
abbrev pub leaves_from : WideValue → WideRef → List ℕ
leaves_from wide child = leaves_in (length wide.nodes + 1) wide child

-- the ways from a wide node are those from its children, those from the root lead to the leaves of the tree, from
-- the left, and to each leaf leads one
pub record AreReached (wide : WideValue) (tree : TreeValue) : Type 0 where
  pub inner : (w : ℕ) → w < length wide.nodes → leaves_from wide (Inner w) ≡ all_from (leaves_from wide) (children_in wide.nodes w)
  pub leaf : (leaf : WideLeaf) → leaves_from wide (Leaf leaf) ≡ leaf.node ∷ []
  pub same : leaves_from wide wide.root ≡ leaves_of tree
  pub once : (n : ℕ) → IsLeafAt tree n → times n (leaves_from wide wide.root) ≡ 1

-- the box of an item is in the lane of each child from which a way leads to its leaf
pub record AreInLanes (wide : WideValue) (tree : TreeValue) (items : List (Option BoxValue)) : Type 0 where
  pub each : (w k n at : ℕ) (box : BoxValue) → w < length wide.nodes → k < 8 →
      0 < times n (leaves_from wide (child_at (children_in wide.nodes w) k)) → 0 < holds at (shape_at tree n) →
      item_box items (item_at tree at) ≡ Some box → IsPart box (lane_box (lanes_in wide.nodes w) k)

-- the lane of each child of a wide node is in the box of the subtree for which the node stands, and so, where the
-- node is child k of another, in lane k of that one
pub record AreInParents (wide : WideValue) (tree : TreeValue) : Type 0 where
  pub top : (v j : ℕ) (d : BoxValue) → v < length wide.nodes → j < 8 → is_there (child_at (children_in wide.nodes v) j) ≡ true →
      IsPart (lane_box (lanes_in wide.nodes v) j) (box_at tree d (top_at wide.tops v))
  pub each : (w k v j : ℕ) → w < length wide.nodes → k < 8 → child_at (children_in wide.nodes w) k ≡ Inner v → j < 8 →
      is_there (child_at (children_in wide.nodes v) j) ≡ true →
      IsPart (lane_box (lanes_in wide.nodes v) j) (lane_box (lanes_in wide.nodes w) k)
