-- What a walk looks at: a scene of boxes in boxes, for one ray. Nothing here knows of how a structure keeps its boxes.
--
-- By hand, for an inner node over two leaves with a primitive each, met at 1, 1 and 3, whose primitives are hit at 2 and 4:
-- `every` of the root is both hits. Where the nearer commits, the walk ends at 2 and the second leaf is not opened: `opened` of the
-- root at 2 is 1, and 2 where nothing commits.
use Rattle.std.specs.Prelude.{ℕ, ◌≡◌, ◌+◌, ◌++◌, ◌≤◌, true, Option, List, length, All}
use Rattle.std.specs.List.{sum_by, flat_map}
use Rattle.ray_geom.specs.declared.ratio.Ratio.{Ratio}
use Rattle.ray_query.specs.declared.found.Found.{Found}
use Rattle.ray_nearest.specs.declared.node.WalkNode.{WalkNode}
use Rattle.ray_nearest.specs.declared.node.WalkNode.TheVariants.{TopInner, TopLeaf, Inner, Leaf}
use Rattle.ray_query.specs.KeyOrder.{AreApart}
use Rattle.ray_query.specs.Limits.{Holds, IsInOrder, is_open}

-- what a ray meets in a scene
pub record SceneValue : Type 0 where
  -- the nodes at which a walk begins
  pub roots : List WalkNode
  -- from where the ray is in a node's box; None where it doesn't meet it
  pub entry : WalkNode → Option Ratio
  -- the nodes right below a node
  pub below : WalkNode → List WalkNode
  -- what is found right at a node, as at a leaf
  pub finds : WalkNode → List Found
  -- how many primitives are tested right at a node
  pub tests : WalkNode → ℕ
  -- all that is found from a node down
  pub every : WalkNode → List Found
  -- how many primitives the opened leaves from a node down have, where the walk ends at a limit
  pub opened : Option Ratio → WalkNode → ℕ
  -- no less than the number of nodes and of what is found from a node down
  pub size : WalkNode → ℕ

-- all that is found in a scene
abbrev pub found_in : SceneValue → List Found
found_in s = flat_map s.every s.roots

-- how many primitives the opened leaves of a scene have, where the walk ends at a limit
abbrev pub opened_in : SceneValue → Option Ratio → ℕ
opened_in s limit = sum_by (s.opened limit) s.roots

-- nothing is tested right at a node, unless it is a leaf
abbrev pub IsQuiet : (WalkNode → ℕ) → WalkNode → Type 0
IsQuiet tests (TopInner n) = tests (TopInner n) ≡ 0
IsQuiet tests (TopLeaf n) = tests (TopLeaf n) ≡ 0
IsQuiet tests (Inner i n) = tests (Inner i n) ≡ 0
IsQuiet tests (Leaf i n) = Unit {0}

-- the laws of a scene, over the nodes that it knows
pub record IsScene (IsNode : WalkNode → Type 0) (s : SceneValue) : Type 0 where
  -- it knows its roots and what is below a node
  pub roots : All IsNode s.roots
  pub below : (n : WalkNode) → IsNode n → All IsNode (s.below n)
  -- what is found from a node down is found right there or below it, and a node is more than all that
  pub every : (n : WalkNode) → IsNode n → s.every n ≡ s.finds n ++ flat_map s.every (s.below n)
  pub size : (n : WalkNode) → IsNode n → 1 + (length (s.finds n) + sum_by s.size (s.below n)) ≤ s.size n
  -- primitives are tested at leaves alone
  pub quiet : (n : WalkNode) → IsQuiet s.tests n
  -- no key is found twice
  pub apart : AreApart (found_in s)
  -- a node's box holds what is found from there down, and a candidate leaves where it enters or later
  pub holds : (n : WalkNode) → IsNode n → All (Holds (s.entry n)) (s.every n)
  pub in_order : (n : WalkNode) → IsNode n → All IsInOrder (s.every n)
  -- what is opened below a node is opened from it down; where the node is met, what is tested there is, too
  pub nested : (n : WalkNode) (limit : Option Ratio) → IsNode n → sum_by (s.opened limit) (s.below n) ≤ s.opened limit n
  pub opened : (n : WalkNode) (limit : Option Ratio) → IsNode n → is_open limit (s.entry n) ≡ true
      → s.tests n + sum_by (s.opened limit) (s.below n) ≤ s.opened limit n
