-- Leaves and inner nodes of a tree, and what is below them.
use Rattle.std.proofs.Common.{◌≡◌, ◌∙◌, ◌+◌, ◌<◌, ◌++◌, ℕ, List, [], ◌∷◌, length, refl, ap, arith}
use Rattle.ray_tree.specs.declared.node.Node.{Node}
use Rattle.ray_tree.specs.declared.node.Node.TheVariants.{Leaf, Inner}
use Rattle.ray_tree.specs.Shapes.{Shape, Gone, Tip, Fork, node_at, gone, tips}
use Rattle.ray_tree.specs.Trees.{TreeValue, shape_at, IsShape}
use Rattle.ray_tree.specs.Local.{IsLeaf}
use Rattle.ray_tree.specs.Waits.{weight}
use Rattle.ray_tree.proofs.NodeLaws.{at_leaf, at_inner}
use Rattle.ray_tree.proofs.Sizes.{size_of, size-is}
use Rattle.ray_wide.specs.Subtrees.{IsLeafNode, leaves_at}
use Rattle.ray_wide.specs.Cuts.{weight_at}

-- an inner node opened
pub record IsOpen (nodes : List Node) (n l r : ℕ) : Type 0 where
  pub left : l < length nodes
  pub right : r < length nodes
  pub leaves : leaves_at nodes n ≡ leaves_at nodes l ++ leaves_at nodes r
  pub weight : weight_at nodes n ≡ 1 + (weight_at nodes l + weight_at nodes r)

pub is_open : (tree : TreeValue) → IsShape tree → (n l r : ℕ) → n < length tree.nodes → node_at tree.nodes n ≡ Inner l r → IsOpen tree.nodes n l r
is_open tree shape n l r small is =
    let at = at_inner tree shape n l r small is in
    record { left = at.left; right = at.right; leaves = ap tips at.shape; weight = ap weight at.shape }

-- a leaf is the one leaf of its subtree
leaf_of : (tree : TreeValue) → IsShape tree → (n : ℕ) → n < length tree.nodes → (node : Node) → node_at tree.nodes n ≡ node → IsLeaf node
    → leaves_at tree.nodes n ≡ n ∷ []
leaf_of tree shape n small (Leaf first count) is leaf = ap tips (at_leaf tree shape n first count small is).shape
leaf_of tree shape n small (Inner l r) is leaf = absurd leaf

pub one_leaf : (tree : TreeValue) → IsShape tree → (n : ℕ) → IsLeafNode tree.nodes n → leaves_at tree.nodes n ≡ n ∷ []
one_leaf tree shape n h = leaf_of tree shape n h.small (node_at tree.nodes n) refl h.leaf

-- there is something below each node
pub some_weight : (s : Shape) → 0 < weight s
some_weight Gone = omega arith
some_weight (Tip node first count) = omega arith
some_weight (Fork node l r) = omega arith

-- the whole tree has as many nodes as there are
weight-size : (s : Shape) → gone s ≡ 0 → weight s ≡ size_of s
weight-size Gone ends = absurd (omega (arith, ends))
weight-size (Tip node first count) ends = refl
weight-size (Fork node l r) ends = omega (arith, weight-size l (omega (arith, ends)), weight-size r (omega (arith, ends)))

pub whole_weight : (tree : TreeValue) → IsShape tree → 0 < length tree.nodes → weight_at tree.nodes 0 ≡ length tree.nodes
whole_weight tree shape some = weight-size (shape_at tree 0) (shape.ends some) ∙ size-is tree shape some
