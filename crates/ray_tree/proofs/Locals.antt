-- Each box is the least box of the items from its node down exactly where each is so node by node.
use Rattle.std.proofs.Common.{◌≡◌, ◌∙◌, ◌+◌, ◌<◌, ℕ, zero, suc, Option, List, length, refl, sym, ap, subst, arith}
use Rattle.ray_geom.specs.Boxes.{BoxValue}
use Rattle.ray_geom.specs.LeastBoxes.{HoldsBoxes, IsLeast, union_of}
use Rattle.ray_tree.specs.declared.node.Node.{Node}
use Rattle.ray_tree.specs.declared.node.Node.TheVariants.{Leaf, Inner}
use Rattle.ray_tree.specs.Shapes.{Fork, node_at, grow, shape_in, gone}
use Rattle.ray_tree.specs.Trees.{TreeValue, shape_at, box_at, boxes_below, IsShape, TreeOver}
use Rattle.ray_tree.specs.Local.{IsLocal, AreLocal, AreFit, IsFit, HasItems}
use Rattle.ray_tree.proofs.Under.{shape_suc, shape_zero}
use Rattle.ray_tree.proofs.NodeLaws.{whole_at, at_leaf, at_inner}
use Rattle.ray_tree.proofs.LeastLists.{least_append, same_least}
use Rattle.ray_tree.proofs.Counting.{has_items, items_once}

-- the box of a node is the least of what is from it down
abbrev pub IsLeastAt : TreeValue → List (Option BoxValue) → BoxValue → ℕ → Type 0
IsLeastAt tree items d n = IsLeast (HoldsBoxes (boxes_below items tree.order (shape_at tree n))) (box_at tree d n)

abbrev pub AreLocalIn : TreeValue → List (Option BoxValue) → Type 0
AreLocalIn tree items = AreLocal items tree.order tree.boxes tree.nodes

-- what is from a node's children down ends within one level less
ends_left : (tree : TreeValue) (k n l r : ℕ) → node_at tree.nodes n ≡ Inner l r → gone (shape_in (suc k) tree.nodes n) ≡ 0
    → gone (shape_in k tree.nodes l) + gone (shape_in k tree.nodes r) ≡ 0
ends_left tree k n l r is ends = sym (ap gone (shape_suc k tree.nodes n ∙ ap (grow (shape_in k tree.nodes) n) is)) ∙ ends

module _ (tree : TreeValue) (items : List (Option BoxValue)) (shape : IsShape tree) (d : BoxValue) where
  -- from node by node to all items from a node down
  least_case : (k n : ℕ) (node : Node) → node_at tree.nodes n ≡ node → n < length tree.nodes → gone (shape_in (suc k) tree.nodes n) ≡ 0
      → ((c : ℕ) → c < length tree.nodes → gone (shape_in k tree.nodes c) ≡ 0 → IsLeastAt tree items d c)
      → IsLocal items tree.order tree.boxes (box_at tree d n) node → IsLeastAt tree items d n
  least_case k n (Leaf first count) is small ends deeper local =
      subst (λ s. IsLeast (HoldsBoxes (boxes_below items tree.order s)) (box_at tree d n)) (sym (at_leaf tree shape n first count small is).shape) local
  least_case k n (Inner l r) is small ends deeper local =
      let at = at_inner tree shape n l r small is in
      let sum = ends_left tree k n l r is ends in
      let lefts = boxes_below items tree.order (shape_at tree l) in
      let rights = boxes_below items tree.order (shape_at tree r) in
      let union : IsLeast (HoldsBoxes (boxes_below items tree.order (Fork n (shape_at tree l) (shape_at tree r)))) (union_of (box_at tree d l) (box_at tree d r)) =
      least_append lefts rights (box_at tree d l) (box_at tree d r) (deeper l at.left (omega (arith, sum))) (deeper r at.right (omega (arith, sum))) in
      subst (λ s. IsLeast (HoldsBoxes (boxes_below items tree.order s)) (box_at tree d n)) (sym at.shape)
      (subst (λ b. IsLeast (HoldsBoxes (boxes_below items tree.order (Fork n (shape_at tree l) (shape_at tree r)))) b) (sym (local d)) union)

  least_within : AreLocalIn tree items → (k n : ℕ) → n < length tree.nodes → gone (shape_in k tree.nodes n) ≡ 0 → IsLeastAt tree items d n
  least_within local zero n small ends = absurd (let e = sym (ap gone (shape_zero tree.nodes n)) ∙ ends in omega (arith, e))
  least_within local (suc k) n small ends =
      least_case k n (node_at tree.nodes n) refl small ends (λ c. least_within local k c) (local.each n small d)

  pub least_from_local : AreLocalIn tree items → (n : ℕ) → n < length tree.nodes → IsLeastAt tree items d n
  least_from_local local n small = least_within local (length tree.nodes) n small (whole_at tree shape n small).ends

  -- and back
  local_case : (n : ℕ) (node : Node) → node_at tree.nodes n ≡ node → n < length tree.nodes
      → ((e : BoxValue) (c : ℕ) → c < length tree.nodes → IsLeastAt tree items e c) → IsLocal items tree.order tree.boxes (box_at tree d n) node
  local_case n (Leaf first count) is small least =
      subst (λ s. IsLeast (HoldsBoxes (boxes_below items tree.order s)) (box_at tree d n)) (at_leaf tree shape n first count small is).shape (least d n small)
  local_case n (Inner l r) is small least = λ e.
      let at = at_inner tree shape n l r small is in
      let lefts = boxes_below items tree.order (shape_at tree l) in
      let rights = boxes_below items tree.order (shape_at tree r) in
      same_least (boxes_below items tree.order (Fork n (shape_at tree l) (shape_at tree r))) (box_at tree d n) (union_of (box_at tree e l) (box_at tree e r))
      (subst (λ s. IsLeast (HoldsBoxes (boxes_below items tree.order s)) (box_at tree d n)) at.shape (least d n small))
      (least_append lefts rights (box_at tree e l) (box_at tree e r) (least e l at.left) (least e r at.right))

-- a tree over items, by what can be tested
pub tree_over : (tree : TreeValue) (items : List (Option BoxValue)) → IsShape tree → HasItems tree.order items → AreLocalIn tree items → TreeOver tree items
tree_over tree items shape has local = record {
  shape = shape;
  active_once = items_once tree.order items shape.items_once has;
  least = λ n d small. least_from_local tree items shape d local n small;
}

pub over_has : (tree : TreeValue) (items : List (Option BoxValue)) → TreeOver tree items → HasItems tree.order items
over_has tree items over = has_items tree.order items over.active_once

pub over_local : (tree : TreeValue) (items : List (Option BoxValue)) → TreeOver tree items → AreLocalIn tree items
over_local tree items over = record {
  each = λ n small d.
      local_case tree items over.shape d n (node_at tree.nodes n) refl small (λ e c lt. over.least c e lt);
}

-- what the nodes of a tree name is there
fit_case : (tree : TreeValue) → IsShape tree → (n : ℕ) (node : Node) → node_at tree.nodes n ≡ node → n < length tree.nodes → IsFit (length tree.order) (length tree.nodes) node
fit_case tree shape n (Leaf first count) is small = let a = at_leaf tree shape n first count small is in (a.some, a.few, a.within)
fit_case tree shape n (Inner l r) is small = let a = at_inner tree shape n l r small is in (a.left, a.right)

pub fit_at : (tree : TreeValue) → IsShape tree → (n : ℕ) → n < length tree.nodes → IsFit (length tree.order) (length tree.nodes) (node_at tree.nodes n)
fit_at tree shape n small = fit_case tree shape n (node_at tree.nodes n) refl small

pub are_fit : (tree : TreeValue) → IsShape tree → AreFit (length tree.order) tree.nodes
are_fit tree shape = record { each = λ n small. fit_at tree shape n small }
