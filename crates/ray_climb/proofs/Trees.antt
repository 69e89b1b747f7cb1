-- The facts of a tree on which the climb rule rests.
use Rattle.std.proofs.Common.{◌≡◌, ◌≢◌, ℕ, ◌<◌, Bool, true, false}
use Rattle.ray_climb.specs.Frames.{Frame}
use Rattle.ray_climb.specs.Halves.{lesser_half, greater_half}

-- a node is a child of an inner node
pub record IsKid (t : Frame) (p : ℕ) (s : Bool) : Type 0 where
  pub small : t.child p s < t.nodes
  pub below : t.child p s ≢ 0
  pub parent : t.parent (t.child p s) ≡ p
  pub side : t.side (t.child p s) ≡ s

pub record IsFrame (t : Frame) : Type 0 where
  -- each leaf has a node of its own, and each node without children is that of a leaf
  pub leaf_small : (k : ℕ) → k < t.leaves → t.node_of k < t.nodes
  pub leaf_is : (k : ℕ) → k < t.leaves → t.inner (t.node_of k) ≡ false
  pub leaf_only : (j k : ℕ) → j < t.leaves → k < t.leaves → t.node_of j ≡ t.node_of k → j ≡ k
  pub leaf_named : (i : ℕ) → i < t.nodes → t.inner i ≡ false → (k : ℕ) × (k < t.leaves) × (t.node_of k ≡ i)
  -- each node but the root has a parent, of which it is a child
  pub parent_small : (i : ℕ) → i < t.nodes → i ≢ 0 → t.parent i < t.nodes
  pub parent_inner : (i : ℕ) → i < t.nodes → i ≢ 0 → t.inner (t.parent i) ≡ true
  pub child_is : (i : ℕ) → i < t.nodes → i ≢ 0 → t.child (t.parent i) (t.side i) ≡ i
  pub kids : (p : ℕ) (s : Bool) → p < t.nodes → t.inner p ≡ true → IsKid t p s
  -- a node is higher than its children
  pub height : ℕ → ℕ
  pub higher : (p : ℕ) (s : Bool) → p < t.nodes → t.inner p ≡ true → height (t.child p s) < height p
  -- the halves of an inner node are those of its children's boxes together
  pub low_joins : (p : ℕ) → p < t.nodes → t.inner p ≡ true → t.low p ≡ lesser_half (t.low (t.child p false)) (t.low (t.child p true))
  pub high_joins : (p : ℕ) → p < t.nodes → t.inner p ≡ true → t.high p ≡ greater_half (t.high (t.child p false)) (t.high (t.child p true))
