-- What waits while the leaves of a tree are listed.
use Rattle.std.proofs.Common.{◌≡◌, ◌∙◌, ◌+◌, ◌-◌, ◌<◌, ◌++◌, ◌∷◌, [], ℕ, zero, suc, List, refl, sym, ap, subst, arith, append_assoc, append-nil}
use Rattle.ray_tree.specs.declared.node.Node.{Node}
use Rattle.ray_tree.specs.declared.node.Node.TheVariants.{Leaf, Inner}
use Rattle.ray_tree.specs.declared.leaves.Wait.{Wait}
use Rattle.ray_tree.specs.Shapes.{Shape, Gone, Tip, Fork, node_at, grow, shape_in, tips}
use Rattle.ray_tree.specs.Waits.{below, tips_below, weight, weight_below, IsStep}
use Rattle.ray_tree.proofs.Under.{shape_suc, shape_zero}

-- one more waits, and is the first to be seen
pub tips_last : (nodes : List Node) (waits : List Wait) (wait : Wait)
    → tips_below nodes (waits ++ (wait ∷ [])) ≡ tips (below nodes wait) ++ tips_below nodes waits
tips_last nodes [] wait = sym (append-nil (tips (below nodes wait)))
tips_last nodes (w ∷ ws) wait =
    ap (λ t. t ++ tips (below nodes w)) (tips_last nodes ws wait)
    ∙ append_assoc (tips (below nodes wait)) (tips_below nodes ws) (tips (below nodes w))

pub weight_last : (nodes : List Node) (waits : List Wait) (wait : Wait)
    → weight_below nodes (waits ++ (wait ∷ [])) ≡ weight (below nodes wait) + weight_below nodes waits
weight_last nodes [] wait = refl
weight_last nodes (w ∷ ws) wait = let more = weight_last nodes ws wait in omega (arith, more)

-- nothing is below, a leaf is listed, or two nodes wait
step_of : (nodes : List Node) (wait : Wait) (waits waits1 : List Wait) (leaves leaves1 : List ℕ) (s : Shape) → below nodes wait ≡ s
    → leaves1 ++ tips_below nodes waits1 ≡ leaves ++ (tips s ++ tips_below nodes waits)
    → weight_below nodes waits1 < weight s + weight_below nodes waits → IsStep nodes wait waits leaves waits1 leaves1
step_of nodes wait waits waits1 leaves leaves1 s is same less = record {
  same = same ∙ ap (λ (t : Shape). leaves ++ (tips t ++ tips_below nodes waits)) (sym is);
  less = subst (λ (t : Shape). weight_below nodes waits1 < weight t + weight_below nodes waits) (sym is) less;
}

none_below : (nodes : List Node) (at levels : ℕ) → levels ≡ 0 → shape_in levels nodes at ≡ Gone
none_below nodes at levels is = ap (λ k. shape_in k nodes at) is ∙ shape_zero nodes at

grown_below : (nodes : List Node) (at levels : ℕ) (node : Node) → 0 < levels → node_at nodes at ≡ node
    → shape_in levels nodes at ≡ grow (shape_in (levels - 1) nodes) at node
grown_below nodes at zero node some is = absurd (omega arith)
grown_below nodes at (suc k) node some is =
    let same : suc k - 1 ≡ k = omega arith in
    shape_suc k nodes at ∙ ap (grow (shape_in k nodes) at) is ∙ ap (λ j. grow (shape_in j nodes) at node) (sym same)

pub step_none : (nodes : List Node) (wait : Wait) (waits : List Wait) (leaves : List ℕ) → wait.levels ≡ 0 → IsStep nodes wait waits leaves waits leaves
step_none nodes wait waits leaves none =
    step_of nodes wait waits waits leaves leaves Gone (none_below nodes wait.at wait.levels none) refl (omega arith)

pub step_leaf : (nodes : List Node) (wait : Wait) (waits : List Wait) (leaves leaves1 : List ℕ) (first count : ℕ) → 0 < wait.levels
    → node_at nodes wait.at ≡ Leaf first count → leaves1 ≡ leaves ++ (wait.at ∷ []) → IsStep nodes wait waits leaves waits leaves1
step_leaf nodes wait waits leaves leaves1 first count some is listed =
    step_of nodes wait waits waits leaves leaves1 (Tip wait.at first count) (grown_below nodes wait.at wait.levels (Leaf first count) some is)
    (ap (λ l. l ++ tips_below nodes waits) listed ∙ append_assoc leaves (wait.at ∷ []) (tips_below nodes waits)) (omega arith)

pub step_inner : (nodes : List Node) (wait : Wait) (waits waits1 : List Wait) (leaves : List ℕ) (l r : ℕ) → 0 < wait.levels
    → node_at nodes wait.at ≡ Inner l r
    → waits1 ≡ (waits ++ ((record { at = r; levels = wait.levels - 1 }) ∷ [])) ++ ((record { at = l; levels = wait.levels - 1 }) ∷ [])
    → IsStep nodes wait waits leaves waits1 leaves
step_inner nodes wait waits waits1 leaves l r some is waiting =
    let lw : Wait = record { at = l; levels = wait.levels - 1 } in
    let rw : Wait = record { at = r; levels = wait.levels - 1 } in
    let ls = below nodes lw in
    let rs = below nodes rw in
    let tips_are : tips_below nodes waits1 ≡ (tips ls ++ tips rs) ++ tips_below nodes waits =
    ap (tips_below nodes) waiting ∙ tips_last nodes (waits ++ (rw ∷ [])) lw ∙ ap (λ t. tips ls ++ t) (tips_last nodes waits rw)
    ∙ sym (append_assoc (tips ls) (tips rs) (tips_below nodes waits)) in
    let weight_is : weight_below nodes waits1 ≡ weight ls + (weight rs + weight_below nodes waits) =
    ap (weight_below nodes) waiting ∙ weight_last nodes (waits ++ (rw ∷ [])) lw ∙ ap (λ n. weight ls + n) (weight_last nodes waits rw) in
    step_of nodes wait waits waits1 leaves leaves (Fork wait.at ls rs) (grown_below nodes wait.at wait.levels (Inner l r) some is)
    (ap (λ t. leaves ++ t) tips_are) (omega (arith, weight_is))

-- the leaves listed and those below all that wait stay the same, and less waits
pub same_leaves : (nodes : List Node) (wait : Wait) (waits0 waits waits1 : List Wait) (leaves leaves1 all : List ℕ) → waits0 ≡ waits ++ (wait ∷ [])
    → IsStep nodes wait waits leaves waits1 leaves1 → leaves ++ tips_below nodes waits0 ≡ all → leaves1 ++ tips_below nodes waits1 ≡ all
same_leaves nodes wait waits0 waits waits1 leaves leaves1 all is step before =
    step.same ∙ ap (λ t. leaves ++ t) (sym (ap (tips_below nodes) is ∙ tips_last nodes waits wait)) ∙ before

pub less_waits : (nodes : List Node) (wait : Wait) (waits0 waits waits1 : List Wait) (leaves leaves1 : List ℕ) → waits0 ≡ waits ++ (wait ∷ [])
    → IsStep nodes wait waits leaves waits1 leaves1 → weight_below nodes waits1 < weight_below nodes waits0
less_waits nodes wait waits0 waits waits1 leaves leaves1 is step =
    let same : weight_below nodes waits0 ≡ weight (below nodes wait) + weight_below nodes waits =
    ap (weight_below nodes) is ∙ weight_last nodes waits wait in
    let less = step.less in
    omega (arith, same, less)
