-- Cuts: two subtrees to begin with, and two in the place of one.
use Rattle.std.proofs.Common.{◌≡◌, ◌∙◌, ◌+◌, ◌<◌, ◌++◌, ℕ, zero, suc, List, [], ◌∷◌, length, set, get_or, refl, sym, ap, ap₂, subst, arith, append_assoc, append-nil}
use Rattle.std.specs.List.{All, sum_by, insert}
use Rattle.std.proofs.lemmas.List.Elements.{All-nil, All-cons, All-head, All-tail}
use Rattle.std.proofs.lemmas.List.Sums.{sum_by-cons}
use Rattle.ray_tree.specs.declared.node.Node.{Node}
use Rattle.ray_wide.specs.declared.cut.Branch.{Branch}
use Rattle.ray_wide.specs.Subtrees.{leaves_at}
use Rattle.ray_wide.specs.Cuts.{IsCut, IsNode, leaves_over, weight_at, nodes_in}
use Rattle.ray_wide.proofs.Subtrees.{IsOpen}

-- two nodes in the place of the k-th
opened : List ℕ → ℕ → ℕ → ℕ → List ℕ
opened [] k l r = []
opened (n ∷ ns) zero l r = l ∷ r ∷ ns
opened (n ∷ ns) (suc k) l r = n ∷ opened ns k l r

is_opened : (cut : List Branch) (k : ℕ) (left right : Branch) → k < length cut
    → nodes_in (insert (set cut k left) (k + 1) right) ≡ opened (nodes_in cut) k left.node right.node
unfolding opened
is_opened [] k left right small = absurd (omega arith)
is_opened (b ∷ bs) zero left right small = refl
is_opened (b ∷ bs) (suc k) left right small =
    let same : suc k + 1 ≡ suc (k + 1) = omega arith in
    ap (λ j. nodes_in (insert (set (b ∷ bs) (suc k) left) j right)) same
    ∙ ap (λ ns. b.node ∷ ns) (is_opened bs k left right (omega arith))

long : (ns : List ℕ) (k l r : ℕ) → k < length ns → length (opened ns k l r) ≡ length ns + 1
unfolding opened
long [] k l r small = absurd (omega arith)
long (n ∷ ns) zero l r small = omega arith
long (n ∷ ns) (suc k) l r small = omega (arith, long ns k l r (omega arith))

each : (P : ℕ → Type 0) (ns : List ℕ) (k l r : ℕ) → P l → P r → All P ns → All P (opened ns k l r)
unfolding opened
each P [] k l r pl pr all = all
each P (n ∷ ns) zero l r pl pr all = All-cons P l (r ∷ ns) pl (All-cons P r ns pr (All-tail P n ns all))
each P (n ∷ ns) (suc k) l r pl pr all = All-cons P n (opened ns k l r) (All-head P n ns all) (each P ns k l r pl pr (All-tail P n ns all))

leaves : (nodes : List Node) (ns : List ℕ) (k l r : ℕ) → k < length ns → IsOpen nodes (get_or ns k 0) l r
    → leaves_over nodes (opened ns k l r) ≡ leaves_over nodes ns
unfolding opened
leaves nodes [] k l r small o = absurd (omega arith)
leaves nodes (n ∷ ns) zero l r small o =
    sym (append_assoc (leaves_at nodes l) (leaves_at nodes r) (leaves_over nodes ns)) ∙ ap (λ t. t ++ leaves_over nodes ns) (sym o.leaves)
leaves nodes (n ∷ ns) (suc k) l r small o = ap (λ t. leaves_at nodes n ++ t) (leaves nodes ns k l r (omega arith) o)

weights : (nodes : List Node) (ns : List ℕ) (k l r : ℕ) → k < length ns → IsOpen nodes (get_or ns k 0) l r
    → sum_by (weight_at nodes) (opened ns k l r) < sum_by (weight_at nodes) ns
unfolding opened
weights nodes [] k l r small o = absurd (omega arith)
weights nodes (n ∷ ns) zero l r small o =
    let f = weight_at nodes in
    omega (arith, o.weight, sum_by-cons f n ns, sum_by-cons f l (r ∷ ns), sum_by-cons f r ns)
weights nodes (n ∷ ns) (suc k) l r small o =
    let f = weight_at nodes in
    omega (arith, weights nodes ns k l r (omega arith) o, sum_by-cons f n ns, sum_by-cons f n (opened ns k l r))

-- one subtree of a cut opened
pub cut_more : (nodes : List Node) (top : ℕ) (cut : List Branch) (k l r : ℕ) (left right : Branch) → k < length cut → length cut < 8
    → IsOpen nodes (get_or (nodes_in cut) k 0) l r → left.node ≡ l → right.node ≡ r
    → IsCut nodes top (nodes_in cut) → IsCut nodes top (nodes_in (insert (set cut k left) (k + 1) right))
cut_more nodes top cut k l r left right small room o is_left is_right is_cut =
    let ns = nodes_in cut in
    let in_list : k < length ns = omega (arith, length-nodes cut) in
    let same : nodes_in (insert (set cut k left) (k + 1) right) ≡ opened ns k l r =
    is_opened cut k left right small ∙ ap₂ (λ a b. opened ns k a b) is_left is_right in
    subst (IsCut nodes top) (sym same) (record {
      each = each (IsNode nodes) ns k l r o.left o.right is_cut.each;
      some = let s = is_cut.some in omega (arith, long ns k l r in_list);
      few = omega (arith, long ns k l r in_list, length-nodes cut);
      whole = leaves nodes ns k l r in_list o ∙ is_cut.whole;
      less = let s = is_cut.less in omega (arith, weights nodes ns k l r in_list o);
    })
  where
    length-nodes : (bs : List Branch) → length (nodes_in bs) ≡ length bs
    length-nodes [] = refl
    length-nodes (b ∷ bs) = omega (arith, length-nodes bs)

-- the two subtrees below a node
pub cut_first : (nodes : List Node) (top l r : ℕ) (cut : List Branch) → IsOpen nodes top l r → nodes_in cut ≡ l ∷ r ∷ [] → IsCut nodes top (nodes_in cut)
cut_first nodes top l r cut o is =
    subst (IsCut nodes top) (sym is) (record {
      each = All-cons (IsNode nodes) l (r ∷ []) o.left (All-cons (IsNode nodes) r [] o.right (All-nil (IsNode nodes)));
      some = omega arith;
      few = omega arith;
      whole = ap (λ t. leaves_at nodes l ++ t) (append-nil (leaves_at nodes r)) ∙ sym o.leaves;
      less = omega (arith, o.weight, sum_by-cons (weight_at nodes) l (r ∷ []), sum_by-cons (weight_at nodes) r []);
    })
