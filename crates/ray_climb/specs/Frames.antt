-- What the climb rule reads of a tree and of its new items. (Own.)
use Rattle.std.specs.Prelude.{ℕ, Bool}

-- a tree by the numbers of its nodes and leaves
pub record Frame : Type 0 where
  -- how many nodes there are, the root being node 0, and how many leaves
  pub nodes : ℕ
  pub leaves : ℕ
  -- whether a node has children
  pub inner : ℕ → Bool
  -- the node of a leaf
  pub node_of : ℕ → ℕ
  -- the parent of a node that isn't the root, and whether it is its right child
  pub parent : ℕ → ℕ
  pub side : ℕ → Bool
  -- the child of a node, the right one or the left one
  pub child : ℕ → Bool → ℕ
  -- the low and the high half of the least box of the new items from a node down
  pub low : ℕ → ℕ
  pub high : ℕ → ℕ
