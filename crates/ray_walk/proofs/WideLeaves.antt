-- What a function gives of the nodes of a tree, put together from the left, is what it gives of the leaves: of a binary tree, and of a wide
-- one over its leaves. So both give the same.
use Rattle.std.proofs.Common.{ℕ, zero, suc, ◌≡◌, ◌+◌, ◌++◌, ◌<◌, ◌≤◌, List, [], ◌∷◌, length, refl, sym, ap, subst, ◌∙◌, arith}
use Rattle.std.specs.Prelude.{All}
use Rattle.std.specs.List.{flat_map}
use Rattle.std.proofs.lemmas.List.{append-nil}
use Rattle.std.proofs.lemmas.List.Concat.{flat_map-cons}
use Rattle.std.proofs.lemmas.List.Elements.{All-head, All-tail}
use Rattle.std.proofs.lemmas.Grind.{flat_map-append}
use Rattle.ray_tree.specs.declared.node.Node.{Node}
use Rattle.ray_tree.specs.declared.node.Node.TheVariants as nodes
use Rattle.ray_tree.specs.Shapes.{node_at}
use Rattle.ray_tree.specs.Trees.{TreeValue, IsShape, shape_at}
use Rattle.ray_tree.specs.Local.{IsLeaf}
use Rattle.ray_tree.specs.Waits.{weight}
use Rattle.ray_wide.specs.declared.node.WideLeaf.{WideLeaf}
use Rattle.ray_wide.specs.declared.node.WideRef.{WideRef}
use Rattle.ray_wide.specs.declared.node.WideRef.TheVariants as wides
use Rattle.ray_wide.specs.Subtrees.{leaves_at}
use Rattle.ray_wide.specs.Wides.{WideValue, IsChild, IsCollapsed, IsRoot, children_in, leaves_below, leaves_for}
use Rattle.ray_wide.proofs.Subtrees.{IsOpen, is_open, one_leaf, some_weight}
use Rattle.ray_walk.specs.Traced.{root_in}

pub flat-one : {X Y : Type 0} (F : X → List Y) (x : X) → flat_map F (x ∷ []) ≡ F x
flat-one F x = flat_map-cons F x [] ∙ append-nil (F x)

-- ---- a binary tree

module _ {Y : Type 0} (tree : TreeValue) (shape : IsShape tree) (G L : ℕ → List Y)
    (leaf : (n first count : ℕ) → n < length tree.nodes → node_at tree.nodes n ≡ nodes.Leaf first count → G n ≡ L n)
    (inner : (n l r : ℕ) → n < length tree.nodes → node_at tree.nodes n ≡ nodes.Inner l r → G n ≡ G l ++ G r) where
  at-node : (k n : ℕ) (node : Node) → node_at tree.nodes n ≡ node → n < length tree.nodes → weight (shape_at tree n) < suc k
      → ((m : ℕ) → m < length tree.nodes → weight (shape_at tree m) < k → G m ≡ flat_map L (leaves_at tree.nodes m))
      → G n ≡ flat_map L (leaves_at tree.nodes n)
  at-node k n (nodes.Leaf first count) e there small rest =
      leaf n first count there e
      ∙ (sym (flat-one L n) ∙ sym (ap (flat_map L) (one_leaf tree shape n (record { small = there; leaf = subst IsLeaf (sym e) tt }))))
  at-node k n (nodes.Inner l r) e there small rest =
      let both : IsOpen tree.nodes n l r = is_open tree shape n l r there e in
      let heavy = both.weight in
      let some_left = some_weight (shape_at tree l) in
      let some_right = some_weight (shape_at tree r) in
      inner n l r there e
      ∙ ((λ i. rest l both.left (omega (arith, heavy, small, some_right)) i ++ rest r both.right (omega (arith, heavy, small, some_left)) i)
      ∙ (sym (flat_map-append L (leaves_at tree.nodes l) (leaves_at tree.nodes r)) ∙ sym (ap (flat_map L) both.leaves)))

  down : (k n : ℕ) → n < length tree.nodes → weight (shape_at tree n) < k → G n ≡ flat_map L (leaves_at tree.nodes n)
  down zero n there small = absurd (omega (arith, small))
  down (suc k) n there small = at-node k n (node_at tree.nodes n) refl there small (down k)

  pub binary-leaves : (n : ℕ) → n < length tree.nodes → G n ≡ flat_map L (leaves_at tree.nodes n)
  binary-leaves n there = down (suc (weight (shape_at tree n))) n there (omega arith)

-- ---- a wide tree over its leaves

module _ {Y : Type 0} (tree : TreeValue) (wide : WideValue) (shape : IsShape tree) (over : IsCollapsed wide tree.nodes) (G : WideRef → List Y) (L : ℕ → List Y)
    (empty : G wides.Empty ≡ []) (leaf : (leaf : WideLeaf) → leaf.node < length tree.nodes → G (wides.Leaf leaf) ≡ L leaf.node)
    (inner : (w : ℕ) → w < length wide.nodes → G (wides.Inner w) ≡ flat_map G (children_in wide.nodes w)) where
  of-children : (from : ℕ) → ((c : WideRef) → IsChild tree.nodes wide.tops from c → G c ≡ flat_map L (leaves_for tree.nodes wide.tops c))
      → (cs : List WideRef) → All (IsChild tree.nodes wide.tops from) cs → flat_map G cs ≡ flat_map L (leaves_below tree.nodes wide.tops cs)
  of-children from each [] all = refl
  of-children from each (c ∷ cs) all =
      let P = IsChild tree.nodes wide.tops from in
      flat_map-cons G c cs
      ∙ ((λ i. each c (All-head P c cs all) i ++ of-children from each cs (All-tail P c cs all) i)
      ∙ sym (flat_map-append L (leaves_for tree.nodes wide.tops c) (leaves_below tree.nodes wide.tops cs)))

  at-child : (from : ℕ) → ((w : ℕ) → from ≤ w → w < length wide.nodes → (c : WideRef) → IsChild tree.nodes wide.tops (w + 1) c → G c ≡ flat_map L (leaves_for tree.nodes wide.tops c))
      → (c : WideRef) → IsChild tree.nodes wide.tops from c → G c ≡ flat_map L (leaves_for tree.nodes wide.tops c)
  at-child from each wides.Empty is = empty
  at-child from each (wides.Leaf l) is =
      leaf l is.node.small ∙ (sym (flat-one L l.node) ∙ sym (ap (flat_map L) (one_leaf tree shape l.node is.node)))
  at-child from each (wides.Inner w) is =
      let topped = over.topped in
      let low = is.0 in
      let high = is.1 in
      let small : w < length wide.nodes = omega (arith, topped, high) in
      let node = over.each w small in
      inner w small ∙ (of-children (w + 1) (each w low small) (children_in wide.nodes w) node.each ∙ ap (flat_map L) node.whole)

  downwards : (k from : ℕ) → 0 < k → length wide.nodes < from + k → (c : WideRef) → IsChild tree.nodes wide.tops from c
      → G c ≡ flat_map L (leaves_for tree.nodes wide.tops c)
  downwards zero from some enough c is = absurd (omega (arith, some))
  downwards (suc k) from some enough c is =
      at-child from
      (λ w low small d h. downwards k (w + 1) (omega (arith, low, small, enough)) (omega (arith, low, small, enough)) d h) c is

  pub wide-leaves : (from : ℕ) (c : WideRef) → IsChild tree.nodes wide.tops from c → G c ≡ flat_map L (leaves_for tree.nodes wide.tops c)
  wide-leaves from c is = downwards (length wide.nodes + 1) from (omega arith) (omega arith) c is

-- ---- the root

some-root : {X Y : Type 0} (F : X → List Y) (ns : List Node) (x : X) → 0 < length ns → flat_map F (root_in ns x) ≡ F x
some-root F [] x some = absurd (omega (arith, some))
some-root F (n ∷ ns) x some = flat-one F x

no-root : {X Y : Type 0} (F : X → List Y) (ns : List Node) (x : X) → length ns ≡ 0 → flat_map F (root_in ns x) ≡ []
no-root F [] x none = refl
no-root F (n ∷ ns) x none = absurd (omega (arith, none))

-- the root of a wide tree gives what that of the binary one gives, if there is one
module _ {X Y : Type 0} (tree : TreeValue) (wide : WideValue) (over : IsCollapsed wide tree.nodes) (G : WideRef → List Y) (L : ℕ → List Y)
    (empty : G wides.Empty ≡ []) (wide_gives : (c : WideRef) → IsChild tree.nodes wide.tops 0 c → G c ≡ flat_map L (leaves_for tree.nodes wide.tops c))
    (F : X → List Y) (root : X) (gives : 0 < length tree.nodes → F root ≡ flat_map L (leaves_at tree.nodes 0)) where
  by-root : (r : WideRef) → IsRoot tree.nodes wide.tops r → G r ≡ flat_map F (root_in tree.nodes root)
  by-root wides.Empty (none, few) = empty ∙ sym (no-root F tree.nodes root none)
  by-root (wides.Leaf l) (is, first, few) =
      let small : 0 < length tree.nodes = subst (λ m. m < length tree.nodes) first is.node.small in
      wide_gives (wides.Leaf l) is
      ∙ (ap (λ m. flat_map L (leaves_at tree.nodes m)) first ∙ (sym (gives small) ∙ sym (some-root F tree.nodes root small)))
  by-root (wides.Inner w) (top, first, some, start) =
      wide_gives (wides.Inner w) (omega arith, omega (arith, first, some))
      ∙ (ap (λ m. flat_map L (leaves_for tree.nodes wide.tops (wides.Inner m))) first
      ∙ (ap (λ m. flat_map L (leaves_at tree.nodes m)) start ∙ (sym (gives top.small) ∙ sym (some-root F tree.nodes root top.small))))

  pub roots-same : G wide.root ≡ flat_map F (root_in tree.nodes root)
  roots-same = by-root wide.root over.root
