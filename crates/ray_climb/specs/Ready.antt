-- What private calls say of a tree that is to be refitted and of its table; no clause of a public
-- call speaks of it. (Own.)
use Rattle.std.specs.Prelude.{◌≡◌, ◌≢◌, ◌<◌, ◌≤◌, ◌^◌, ℕ, not, Option, Some, List, length, slice_index, slice_index_or, slice_set}
use Rattle.ray_geom.specs.Boxes.{BoxValue, IsBox}
use Rattle.ray_tree.specs.declared.node.Node.{Node}
use Rattle.ray_tree.specs.declared.node.Node.TheVariants.{Leaf, Inner}
use Rattle.ray_tree.specs.Shapes.{node_at}
use Rattle.ray_tree.specs.Trees.{TreeValue, IsShape, item_box}
use Rattle.ray_climb.specs.declared.refit.Up.{Up}
use Rattle.ray_climb.specs.Halves.{low_half, high_half}
use Rattle.ray_climb.specs.Refits.{RefitValue, kid, parent_of, is_right, box_over}
use Rattle.ray_tree.specs.NodeBoxes.{HasActivity, AreBoxes}
use Rattle.ray_climb.specs.Rule.{words_of, lows_in, highs_in}

-- a tree can be refitted to its new items
pub record IsReady (r : RefitValue) : Type 0 where
  pub shape : IsShape r.tree
  pub activity : HasActivity r.tree r.items
  pub boxes : AreBoxes r.items
  pub few : length r.items ≤ 2 ^ 20

-- the parents of all nodes
pub record AreParents (tree : TreeValue) (parents : List ℕ) : Type 0 where
  pub long : length parents ≡ length tree.nodes
  pub each : (n : ℕ) → n < length tree.nodes → n ≢ 0 → slice_index parents n ≡ parent_of tree.nodes n

-- the parents of those nodes whose parent is below a number
pub record AreParentsBelow (tree : TreeValue) (parents : List ℕ) (from : ℕ) : Type 0 where
  pub long : length parents ≡ length tree.nodes
  pub each : (n : ℕ) → n < length tree.nodes → n ≢ 0 → parent_of tree.nodes n < from → slice_index parents n ≡ parent_of tree.nodes n

-- what is kept of a tree that is to be refitted
pub record IsKept (r : RefitValue) (list : List ℕ) : Type 0 where
  pub ready : IsReady r
  pub parents : AreParents r.tree list

-- a table of so many words is that of a tree
pub record IsTable (words : ℕ) (key : RefitValue) : Type 0 where
  pub long : words ≡ words_of (length key.tree.nodes)
  pub ready : IsReady key

-- the way from a node to its parent
pub record IsUp (r : RefitValue) (n : ℕ) (up : Up) : Type 0 where
  pub parent : up.parent ≡ parent_of r.tree.nodes n
  pub right : up.right ≡ is_right r.tree.nodes n
  pub sibling : up.sibling ≡ kid (node_at r.tree.nodes (parent_of r.tree.nodes n)) (not (is_right r.tree.nodes n))
  pub parent_small : up.parent < length r.tree.nodes
  pub sibling_small : up.sibling < length r.tree.nodes

-- the words of each node are the halves of its box
pub record AreExact (words : List ℕ) (r : RefitValue) : Type 0 where
  pub low : (n : ℕ) → n < length r.tree.nodes → lows_in words n ≡ low_half (box_over r n)
  pub high : (n : ℕ) → n < length r.tree.nodes → highs_in words n ≡ high_half (box_over r n)

-- the boxes of the first so many nodes
pub record AreTrue (r : RefitValue) (boxes : List BoxValue) (many : ℕ) : Type 0 where
  pub long : length boxes ≡ many
  pub each : (n : ℕ) (d : BoxValue) → n < many → slice_index_or boxes n d ≡ box_over r n

-- the boxes of the first so many items are within the limits
pub record AreBoxesBelow (items : List (Option BoxValue)) (many : ℕ) : Type 0 where
  pub each : (p : ℕ) (b : BoxValue) → p < many → item_box items p ≡ Some b → IsBox b

-- the parents of the children of a node are set
abbrev pub marked : List ℕ → Node → ℕ → List ℕ
marked parents (Leaf first count) n = parents
marked parents (Inner left right) n = slice_set (slice_set parents left n) right n

-- the children of a node are below a number
abbrev pub HasKidsBelow : ℕ → Node → Type 0
HasKidsBelow many (Leaf first count) = Unit {0}
HasKidsBelow many (Inner left right) = (left < many) × (right < many)
