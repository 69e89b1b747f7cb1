-- The leaves of a tree are leaves, and nodes of it.
use Rattle.std.proofs.Common.{◌≡◌, ◌+◌, ◌<◌, ℕ, zero, suc, List, [], length, get_or, refl, sym, subst, arith}
use Rattle.std.specs.List.{All}
use Rattle.std.proofs.lemmas.Bool.Decides.{nat_tests}
use Rattle.std.proofs.lemmas.List.Elements.{All-nil, All-cons, All-append, All-weaker, All-get_or}
use Rattle.ray_tree.specs.declared.node.Node.{Node}
use Rattle.ray_tree.specs.declared.node.Node.TheVariants.{Leaf, Inner}
use Rattle.ray_tree.specs.Shapes.{Shape, Gone, Tip, Fork, node_at, grow, shape_in, inside, visits, tips}
use Rattle.ray_tree.specs.Trees.{TreeValue, shape_at, leaves_of, IsShape}
use Rattle.ray_tree.specs.Local.{IsLeaf, IsLeafAt}
use Rattle.ray_tree.proofs.Under.{shape_suc, shape_zero, at_itself}

leaves_grown : (nodes : List Node) (k n : ℕ) (node : Node) → node_at nodes n ≡ node
    → ((m : ℕ) → All (λ x. IsLeaf (node_at nodes x)) (tips (shape_in k nodes m)))
    → All (λ x. IsLeaf (node_at nodes x)) (tips (grow (shape_in k nodes) n node))
leaves_grown nodes k n (Leaf first count) is deeper = All-cons (λ x. IsLeaf (node_at nodes x)) n [] (subst IsLeaf (sym is) tt) (All-nil (λ x. IsLeaf (node_at nodes x)))
leaves_grown nodes k n (Inner l r) is deeper = All-append (λ x. IsLeaf (node_at nodes x)) (tips (shape_in k nodes l)) (tips (shape_in k nodes r)) (deeper l) (deeper r)

are_leaves : (nodes : List Node) (k n : ℕ) → All (λ x. IsLeaf (node_at nodes x)) (tips (shape_in k nodes n))
are_leaves nodes zero n = subst (λ s. All (λ x. IsLeaf (node_at nodes x)) (tips s)) (sym (shape_zero nodes n)) (All-nil (λ x. IsLeaf (node_at nodes x)))
are_leaves nodes (suc k) n =
    subst (λ s. All (λ x. IsLeaf (node_at nodes x)) (tips s)) (sym (shape_suc k nodes n))
    (leaves_grown nodes k n (node_at nodes n) refl (λ m. are_leaves nodes k m))

more_left : (a b c : ℕ) → 0 < b → 0 < a + (b + c)
more_left a b c h = omega arith

more_right : (a b c : ℕ) → 0 < c → 0 < a + (b + c)
more_right a b c h = omega arith

are_visited : (s : Shape) → All (λ x. 0 < visits x s) (tips s)
are_visited Gone = All-nil (λ x. 0 < 0)
are_visited (Tip node first count) = All-cons (λ x. 0 < inside x node 1) node [] (omega (arith, at_itself node)) (All-nil (λ x. 0 < inside x node 1))
are_visited (Fork node l r) =
    All-append (λ x. 0 < visits x (Fork node l r)) (tips l) (tips r)
    (All-weaker (λ x. 0 < visits x l) (λ x. 0 < visits x (Fork node l r)) (λ x h. more_left (inside x node 1) (visits x l) (visits x r) h) (tips l) (are_visited l))
    (All-weaker (λ x. 0 < visits x r) (λ x. 0 < visits x (Fork node l r)) (λ x h. more_right (inside x node 1) (visits x l) (visits x r) h) (tips r) (are_visited r))

in_range : (n many : ℕ) → 0 < inside n 0 many → n < many
in_range n many h = grind (arith, nat_tests)

pub leaf_at : (tree : TreeValue) → IsShape tree → (k : ℕ) → k < length (leaves_of tree) → IsLeafAt tree (get_or (leaves_of tree) k 0)
leaf_at tree shape k small =
    let n = get_or (leaves_of tree) k 0 in
    let seen : 0 < visits n (shape_at tree 0) = All-get_or (λ x. 0 < visits x (shape_at tree 0)) (leaves_of tree) k 0 small (are_visited (shape_at tree 0)) in
    record {
      small = in_range n (length tree.nodes) (omega (arith, seen, shape.nodes_once n));
      leaf = All-get_or (λ x. IsLeaf (node_at tree.nodes x)) (leaves_of tree) k 0 small (are_leaves tree.nodes (length tree.nodes) 0);
    }
