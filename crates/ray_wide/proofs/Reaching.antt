-- The ways from the root of a wide tree lead to the leaves of the tree.
use Rattle.std.proofs.Common.{◌≡◌, ◌∙◌, ◌+◌, ◌<◌, ◌≤◌, ◌++◌, ℕ, zero, suc, ◌≢◌, List, [], ◌∷◌, length, refl, sym, ap, ap₂, subst, arith}
use Rattle.std.specs.List.{All}
use Rattle.std.proofs.lemmas.Bool.Decides.{nat_tests}
use Rattle.std.proofs.lemmas.List.Elements.{All-head, All-tail}
use Rattle.std.proofs.lemmas.List.Sums.{sum_by-cons, sum_by-append}
use Rattle.ray_tree.specs.declared.node.Node.{Node}
use Rattle.ray_tree.specs.declared.node.Node.TheVariants.{Leaf as LeafNode, Inner as InnerNode}
use Rattle.ray_tree.specs.Shapes.{Shape, node_at, grow, shape_in, inside, visits, tips}
use Rattle.ray_tree.specs.Trees.{TreeValue, IsShape, times, leaves_of}
use Rattle.ray_tree.specs.Local.{IsLeaf}
use Rattle.ray_tree.proofs.Under.{shape_suc, shape_zero}
use Rattle.ray_tree.proofs.Counting.{one}
use Rattle.ray_wide.specs.declared.node.WideLeaf.{WideLeaf}
use Rattle.ray_wide.specs.declared.node.WideRef.{WideRef}
use Rattle.ray_wide.specs.declared.node.WideRef.TheVariants.{Leaf, Inner, Empty}
use Rattle.ray_wide.specs.Subtrees.{leaves_at}
use Rattle.ray_wide.specs.Wides.{WideValue, IsCollapsed, IsChild, IsRoot, leaves_for, leaves_below, children_in, top_at}
use Rattle.ray_wide.specs.Ways.{all_from, step_from, leaves_in, leaves_from, AreReached}
use Rattle.ray_wide.proofs.Subtrees.{one_leaf}

in_suc : (k : ℕ) (wide : WideValue) (c : WideRef) → leaves_in (suc k) wide c ≡ step_from (leaves_in k wide) wide c
unfolding leaves_in
in_suc k wide c = refl

-- where ways from children lead to what they stand for
all-children : (nodes : List Node) (tops : List ℕ) (from : ℕ) (below : WideRef → List ℕ)
    → ((c : WideRef) → IsChild nodes tops from c → below c ≡ leaves_for nodes tops c)
    → (cs : List WideRef) → All (IsChild nodes tops from) cs → all_from below cs ≡ leaves_below nodes tops cs
all-children nodes tops from below each [] all = refl
all-children nodes tops from below each (c ∷ cs) all =
    let P = IsChild nodes tops from in
    ap₂ (λ a b. a ++ b) (each c (All-head P c cs all)) (all-children nodes tops from below each cs (All-tail P c cs all))

by-step : (tree : TreeValue) (wide : WideValue) (from : ℕ) (below : WideRef → List ℕ) → IsShape tree → IsCollapsed wide tree.nodes
    → ((w : ℕ) → from ≤ w → w < length wide.nodes → (c : WideRef) → IsChild tree.nodes wide.tops (w + 1) c → below c ≡ leaves_for tree.nodes wide.tops c)
    → (c : WideRef) → IsChild tree.nodes wide.tops from c → step_from below wide c ≡ leaves_for tree.nodes wide.tops c
by-step tree wide from below shape over each Empty is = refl
by-step tree wide from below shape over each (Leaf leaf) is = sym (one_leaf tree shape leaf.node is.node)
by-step tree wide from below shape over each (Inner w) is =
    let topped = over.topped in
    let low = is.0 in
    let high = is.1 in
    let small : w < length wide.nodes = omega arith in
    let node = over.each w small in
    all-children tree.nodes wide.tops (w + 1) below (each w low small) (children_in wide.nodes w) node.each ∙ node.whole

reached : (tree : TreeValue) (wide : WideValue) → IsShape tree → IsCollapsed wide tree.nodes → (k from : ℕ) → 0 < k → length wide.nodes < from + k
    → (c : WideRef) → IsChild tree.nodes wide.tops from c → leaves_in k wide c ≡ leaves_for tree.nodes wide.tops c
reached tree wide shape over zero from some enough c is = absurd (omega arith)
reached tree wide shape over (suc k) from some enough c is =
    in_suc k wide c
    ∙ by-step tree wide from (leaves_in k wide) shape over
    (λ w low small d h. reached tree wide shape over k (w + 1) (omega (arith, low, small, enough)) (omega (arith, low, small, enough)) d h) c is

-- from a child anywhere
pub child_reached : (tree : TreeValue) (wide : WideValue) → IsShape tree → IsCollapsed wide tree.nodes → (from : ℕ)
    → (c : WideRef) → IsChild tree.nodes wide.tops from c → leaves_from wide c ≡ leaves_for tree.nodes wide.tops c
child_reached tree wide shape over from c is = reached tree wide shape over (length wide.nodes + 1) from (omega arith) (omega arith) c is

-- from a wide node, by its children
inner-reached : (tree : TreeValue) (wide : WideValue) → IsShape tree → IsCollapsed wide tree.nodes → (w : ℕ) → w < length wide.nodes
    → leaves_from wide (Inner w) ≡ all_from (leaves_from wide) (children_in wide.nodes w)
inner-reached tree wide shape over w small =
    let topped = over.topped in
    let node = over.each w small in
    child_reached tree wide shape over 0 (Inner w) (omega arith, omega arith)
    ∙ sym node.whole
    ∙ sym (all-children tree.nodes wide.tops (w + 1) (leaves_from wide) (λ c h. child_reached tree wide shape over (w + 1) c h) (children_in wide.nodes w) node.each)

leaf-reached : (wide : WideValue) (leaf : WideLeaf) → leaves_from wide (Leaf leaf) ≡ leaf.node ∷ []
leaf-reached wide leaf =
    let same : length wide.nodes + 1 ≡ suc (length wide.nodes) = omega arith in
    ap (λ k. leaves_in k wide (Leaf leaf)) same ∙ in_suc (length wide.nodes) wide (Leaf leaf)

-- from the root
root-child : (nodes : List Node) (tops : List ℕ) (root : WideRef) → IsRoot nodes tops root → IsChild nodes tops 0 root
root-child nodes tops Empty is = tt
root-child nodes tops (Leaf leaf) is = is.0
root-child nodes tops (Inner w) is = let at = is.1 in let some = is.2 in (omega arith, omega arith)

no-node : (nodes : List Node) (n : ℕ) → length nodes ≡ 0 → leaves_at nodes n ≡ []
no-node nodes n none = ap (λ k. tips (shape_in k nodes n)) none ∙ ap tips (shape_zero nodes n)

root-leaves : (nodes : List Node) (tops : List ℕ) (root : WideRef) → IsRoot nodes tops root → leaves_for nodes tops root ≡ leaves_at nodes 0
root-leaves nodes tops Empty is = sym (no-node nodes 0 is.0)
root-leaves nodes tops (Leaf leaf) is = ap (leaves_at nodes) is.1
root-leaves nodes tops (Inner w) is = ap (leaves_at nodes) (ap (top_at tops) is.1 ∙ is.3)

pub root_reached : (tree : TreeValue) (wide : WideValue) → IsShape tree → IsCollapsed wide tree.nodes → leaves_from wide wide.root ≡ leaves_of tree
root_reached tree wide shape over =
    child_reached tree wide shape over 0 wide.root (root-child tree.nodes wide.tops wide.root over.root)
    ∙ root-leaves tree.nodes wide.tops wide.root over.root

-- a leaf of the tree stands once among its leaves
one-itself : (n m : ℕ) → one n m ≡ inside n m 1
one-itself n m = grind (arith, nat_tests)

apart : (n m : ℕ) → n ≢ m → inside n m 1 ≡ 0
apart n m h = grind (arith, nat_tests)

seen-grown : (nodes : List Node) (k m n : ℕ) (node : Node) → node_at nodes m ≡ node → IsLeaf (node_at nodes n)
    → ((c : ℕ) → times n (tips (shape_in k nodes c)) ≡ visits n (shape_in k nodes c))
    → times n (tips (grow (shape_in k nodes) m node)) ≡ visits n (grow (shape_in k nodes) m node)
seen-grown nodes k m n (LeafNode first count) is leaf deeper = omega (arith, sum_by-cons (one n) m [], one-itself n m)
seen-grown nodes k m n (InnerNode l r) is leaf deeper =
    let other : n ≢ m = λ e. subst IsLeaf (ap (node_at nodes) e ∙ is) leaf in
    omega (arith, apart n m other, sum_by-append (one n) (tips (shape_in k nodes l)) (tips (shape_in k nodes r)), deeper l, deeper r)

seen-once : (nodes : List Node) (k m n : ℕ) → IsLeaf (node_at nodes n) → times n (tips (shape_in k nodes m)) ≡ visits n (shape_in k nodes m)
seen-once nodes zero m n leaf = ap (λ (s : Shape). times n (tips s)) (shape_zero nodes m) ∙ sym (ap (visits n) (shape_zero nodes m))
seen-once nodes (suc k) m n leaf =
    ap (λ (s : Shape). times n (tips s)) (shape_suc k nodes m)
    ∙ seen-grown nodes k m n (node_at nodes m) refl leaf (λ c. seen-once nodes k c n leaf)
    ∙ sym (ap (visits n) (shape_suc k nodes m))

there-once : (n many : ℕ) → n < many → inside n 0 many ≡ 1
there-once n many h = grind (arith, nat_tests)

pub are_reached : (tree : TreeValue) (wide : WideValue) → IsShape tree → IsCollapsed wide tree.nodes → AreReached wide tree
are_reached tree wide shape over = record {
  inner = λ w small. inner-reached tree wide shape over w small;
  leaf = λ n. leaf-reached wide n;
  same = root_reached tree wide shape over;
  once = λ n leaf.
      ap (times n) (root_reached tree wide shape over)
      ∙ seen-once tree.nodes (length tree.nodes) 0 n leaf.leaf ∙ shape.nodes_once n ∙ there-once n (length tree.nodes) leaf.small;
}
