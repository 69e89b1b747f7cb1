-- Each leaf of a tree has a node of its own, and each node without children is that of a leaf.
use Rattle.std.proofs.Common.{◌≡◌, ◌≢◌, ◌∙◌, ℕ, zero, suc, ◌<◌, ◌≤◌, false, eqb, cond, List, [], ◌∷◌, length, get_or, refl, sym, ap, subst, arith, true≢false}
use Rattle.std.proofs.lemmas.Bool.Decides.{nat_tests}
use mathlib.Core.Logic.{dite}
use native.Mathlib.Decide.{ℕ_discrete}
use Rattle.ray_tree.specs.declared.node.Node.{Node}
use Rattle.ray_tree.specs.declared.node.Node.TheVariants.{Leaf, Inner}
use Rattle.ray_tree.specs.Shapes.{Shape, Gone, Tip, Fork, node_at, grow, shape_in, inside, visits, tips}
use Rattle.ray_tree.specs.Trees.{TreeValue, shape_at, leaves_of, IsShape}
use Rattle.ray_tree.specs.Local.{IsLeaf}
use Rattle.ray_tree.proofs.Under.{shape_suc, shape_zero}
use Rattle.ray_tree.proofs.Tips.{leaf_at}
use Rattle.ray_climb.specs.Rule.{times}
use Rattle.ray_climb.specs.Refits.{is_inner}
use Rattle.ray_climb.proofs.Sums.{times_append, alike, unlike}

-- a member of a list stands there
times_at : (xs : List ℕ) (k x : ℕ) → k < length xs → get_or xs k 0 ≡ x → 0 < times x xs
times_at [] k x small is = absurd (omega arith)
times_at (y ∷ ys) zero x small is = let one = alike y x is in omega arith
times_at (y ∷ ys) (suc k) x small is = let r = times_at ys k x (omega arith) is in omega arith

times_two : (xs : List ℕ) (j k x : ℕ) → j < length xs → k < length xs → j ≢ k → get_or xs j 0 ≡ x → get_or xs k 0 ≡ x → 2 ≤ times x xs
times_two [] j k x sj sk ne p q = absurd (omega arith)
times_two (y ∷ ys) zero zero x sj sk ne p q = absurd (ne refl)
times_two (y ∷ ys) zero (suc k) x sj sk ne p q = let one = alike y x p in let r = times_at ys k x (omega arith) q in omega arith
times_two (y ∷ ys) (suc j) zero x sj sk ne p q = let one = alike y x q in let r = times_at ys j x (omega arith) p in omega arith
times_two (y ∷ ys) (suc j) (suc k) x sj sk ne p q = let r = times_two ys j k x (omega arith) (omega arith) (λ e. ne (omega arith)) p q in omega arith

times_some : (xs : List ℕ) (x : ℕ) → 0 < times x xs → (k : ℕ) × (k < length xs) × (get_or xs k 0 ≡ x)
times_some [] x h = absurd (omega arith)
times_some (y ∷ ys) x h = dite (ℕ_discrete y x) (λ e. (0, omega arith, e))
    (λ ne. let z = unlike y x ne in let r = times_some ys x (omega arith) in (suc r.0, (let s = r.1 in omega arith), r.2))

-- a leaf stands among the leaves at most as often as it is visited
one_tip : (x n : ℕ) → cond {A = ℕ} (eqb n x) 1 0 ≡ inside x n 1
one_tip x n = grind (arith, nat_tests)

tips_few : (x : ℕ) (s : Shape) → times x (tips s) ≤ visits x s
tips_few x Gone = omega arith
tips_few x (Tip node first count) = let e = one_tip x node in omega arith
tips_few x (Fork node l r) = let e = times_append x (tips l) (tips r) in let a = tips_few x l in let b = tips_few x r in omega arith

-- and a node without children as often
tips_case : (nodes : List Node) (k n x : ℕ) (node : Node) → node_at nodes n ≡ node → is_inner (node_at nodes x) ≡ false
    → ((m : ℕ) → visits x (shape_in k nodes m) ≤ times x (tips (shape_in k nodes m)))
    → visits x (grow (shape_in k nodes) n node) ≤ times x (tips (grow (shape_in k nodes) n node))
tips_case nodes k n x (Leaf first count) is leaf deeper = let e = one_tip x n in omega arith
tips_case nodes k n x (Inner l r) is leaf deeper =
    let e = times_append x (tips (shape_in k nodes l)) (tips (shape_in k nodes r)) in
    let a = deeper l in
    let b = deeper r in
    let z : inside x n 1 ≡ 0 = other x n (λ q. true≢false (sym (ap is_inner is) ∙ (ap (λ y. is_inner (node_at nodes y)) (sym q) ∙ leaf))) in
    omega arith
  where
    other : (a b : ℕ) → a ≢ b → inside a b 1 ≡ 0
    other a b ne = grind (arith, nat_tests)

tips_all : (nodes : List Node) (k n x : ℕ) → is_inner (node_at nodes x) ≡ false → visits x (shape_in k nodes n) ≤ times x (tips (shape_in k nodes n))
tips_all nodes zero n x leaf = subst (λ s. visits x s ≤ times x (tips s)) (sym (shape_zero nodes n)) (omega arith)
tips_all nodes (suc k) n x leaf =
    subst (λ s. visits x s ≤ times x (tips s)) (sym (shape_suc k nodes n)) (tips_case nodes k n x (node_at nodes n) refl leaf (λ m. tips_all nodes k m x leaf))

leaf_is_no_inner : (node : Node) → IsLeaf node → is_inner node ≡ false
leaf_is_no_inner (Leaf first count) h = refl
leaf_is_no_inner (Inner l r) h = absurd h

inside_most : (n many : ℕ) → inside n 0 many ≤ 1
inside_most n many = grind (arith, nat_tests)

inside_all : (n many : ℕ) → n < many → inside n 0 many ≡ 1
inside_all n many h = grind (arith, nat_tests)

module _ (tree : TreeValue) (shape : IsShape tree) where
  pub node_small : (k : ℕ) → k < length (leaves_of tree) → get_or (leaves_of tree) k 0 < length tree.nodes
  node_small k lt = (leaf_at tree shape k lt).small

  pub node_leaf : (k : ℕ) → k < length (leaves_of tree) → is_inner (node_at tree.nodes (get_or (leaves_of tree) k 0)) ≡ false
  node_leaf k lt = leaf_is_no_inner (node_at tree.nodes (get_or (leaves_of tree) k 0)) (leaf_at tree shape k lt).leaf

  pub leaf_only : (j k : ℕ) → j < length (leaves_of tree) → k < length (leaves_of tree) → get_or (leaves_of tree) j 0 ≡ get_or (leaves_of tree) k 0 → j ≡ k
  leaf_only j k sj sk e = dite (ℕ_discrete j k) (λ q. q)
      (λ ne. absurd (
      let x = get_or (leaves_of tree) k 0 in
      let two = times_two (leaves_of tree) j k x sj sk ne e refl in
      let few = tips_few x (shape_at tree 0) in
      let once = shape.nodes_once x in
      let most = inside_most x (length tree.nodes) in
      omega arith))

  pub leaf_named : (i : ℕ) → i < length tree.nodes → is_inner (node_at tree.nodes i) ≡ false → (k : ℕ) × (k < length (leaves_of tree)) × (get_or (leaves_of tree) k 0 ≡ i)
  leaf_named i lt leaf =
      let all = tips_all tree.nodes (length tree.nodes) 0 i leaf in
      let once = shape.nodes_once i in
      let one = inside_all i (length tree.nodes) lt in
      times_some (leaves_of tree) i (omega arith)
