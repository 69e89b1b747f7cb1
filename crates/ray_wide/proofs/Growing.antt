-- One wide node more.
use Rattle.std.proofs.Common.{◌≡◌, ◌∙◌, ◌+◌, ◌<◌, ◌≤◌, ◌++◌, ◌⊎◌, inl, inr, ℕ, zero, suc, List, [], ◌∷◌, length, drop, get_or, refl, sym, ap, ap₂, subst, arith, length-append, length-drop}
use Rattle.std.specs.List.{All, sum_by}
use Rattle.std.proofs.lemmas.List.{get_or_append_left, drop-append-le}
use Rattle.std.proofs.lemmas.List.Elements.{All-head, All-tail, All-append, All-weaker, All-get_or}
use Rattle.std.proofs.lemmas.List.Sums.{sum_by-cons, sum_by-append}
use Rattle.ray_tree.specs.declared.node.Node.{Node}
use Rattle.ray_tree.specs.Shapes.{shape_in}
use Rattle.ray_wide.specs.declared.node.WideRef.{WideRef}
use Rattle.ray_wide.specs.declared.node.WideRef.TheVariants.{Leaf, Inner, Empty}
use Rattle.ray_wide.specs.declared.node.WideNode.{WideNode}
use Rattle.ray_wide.specs.Subtrees.{IsInnerNode, leaves_at}
use Rattle.ray_wide.specs.Wides.{leaves_for, leaves_below, IsChild, IsNodeOver, children_in, top_at}
use Rattle.ray_wide.specs.Cuts.{IsCut, weight_at, inners_of, refs_of, eight_of, IsGrowing, left_over}
use Rattle.ray_wide.proofs.Subtrees.{some_weight}
use Rattle.ray_wide.proofs.Placing.{refs-many, refs-there, inners-inner, inners-weight, are-children, leaves-placed, eight-leaves, eight-there, eight-children}

-- what was made stays where more waits
child-stays : (nodes : List Node) (tops more : List ℕ) (from : ℕ) (c : WideRef) → IsChild nodes tops from c → IsChild nodes (tops ++ more) from c
child-stays nodes tops more from Empty is = tt
child-stays nodes tops more from (Leaf n) is = is
child-stays nodes tops more from (Inner w) is = let small = is.1 in (is.0, omega (arith, length-append tops more))

leaves-stay-for : (nodes : List Node) (tops more : List ℕ) (from : ℕ) (c : WideRef) → IsChild nodes tops from c
    → leaves_for nodes (tops ++ more) c ≡ leaves_for nodes tops c
leaves-stay-for nodes tops more from Empty is = refl
leaves-stay-for nodes tops more from (Leaf n) is = refl
leaves-stay-for nodes tops more from (Inner w) is = ap (leaves_at nodes) (get_or_append_left tops more 0 w is.1)

leaves-stay : (nodes : List Node) (tops more : List ℕ) (from : ℕ) (cs : List WideRef) → All (IsChild nodes tops from) cs
    → leaves_below nodes (tops ++ more) cs ≡ leaves_below nodes tops cs
leaves-stay nodes tops more from [] all = refl
leaves-stay nodes tops more from (c ∷ cs) all =
    let P = IsChild nodes tops from in
    ap₂ (λ a b. a ++ b) (leaves-stay-for nodes tops more from c (All-head P c cs all)) (leaves-stay nodes tops more from cs (All-tail P c cs all))

node-stays : (nodes : List Node) (tops more : List ℕ) (w : ℕ) (cs : List WideRef) → w < length tops → IsNodeOver nodes tops w cs → IsNodeOver nodes (tops ++ more) w cs
node-stays nodes tops more w cs small over =
    let same = get_or_append_left tops more 0 w small in
    record {
      eight = over.eight;
      some = over.some;
      each = All-weaker (IsChild nodes tops (w + 1)) (IsChild nodes (tops ++ more) (w + 1)) (λ c h. child-stays nodes tops more (w + 1) c h) cs over.each;
      top = subst (IsInnerNode nodes) (sym same) over.top;
      whole = leaves-stay nodes tops more (w + 1) cs over.each ∙ over.whole ∙ ap (leaves_at nodes) (sym same);
    }

-- the next node
node-new : (nodes : List Node) (tops cut : List ℕ) (w : ℕ) → w < length tops → All (IsInnerNode nodes) tops → IsCut nodes (top_at tops w) cut
    → IsNodeOver nodes (tops ++ inners_of nodes cut) w (eight_of (refs_of nodes (length tops) cut))
node-new nodes tops cut w small inner is_cut =
    let more = inners_of nodes cut in
    let refs = refs_of nodes (length tops) cut in
    let same = get_or_append_left tops more 0 w small in
    let many = refs-many nodes (length tops) cut in
    let few : length refs ≤ 8 = let f = is_cut.few in omega arith in
    record {
      eight = refl;
      some = let s = is_cut.some in omega (arith, eight-there refs few, refs-there nodes (length tops) cut);
      each = eight-children nodes (tops ++ more) (w + 1) refs few
          (are-children nodes (tops ++ more) (w + 1) (length tops) cut is_cut.each (omega arith) (omega (arith, length-append tops more)));
      top = subst (IsInnerNode nodes) (sym same) (All-get_or (IsInnerNode nodes) tops w 0 small inner);
      whole = eight-leaves nodes (tops ++ more) refs few ∙ leaves-placed nodes tops cut ∙ is_cut.whole ∙ ap (leaves_at nodes) (sym same);
    }

-- children of the earlier nodes and of the new one
children-earlier : (wides : List WideNode) (node : WideNode) (v : ℕ) → v < length wides → children_in (wides ++ (node ∷ [])) v ≡ children_in wides v
children-earlier [] node v small = absurd (omega arith)
children-earlier (n ∷ ns) node zero small = refl
children-earlier (n ∷ ns) node (suc v) small = children-earlier ns node v (omega arith)

children-last : (wides : List WideNode) (node : WideNode) → children_in (wides ++ (node ∷ [])) (length wides) ≡ node.children
children-last [] node = refl
children-last (n ∷ ns) node = children-last ns node

either : (v w : ℕ) → v < w + 1 → (v < w) ⊎ (v ≡ w)
either v w h = grind arith

long-one : (wides : List WideNode) (node : WideNode) → length (wides ++ (node ∷ [])) ≡ length wides + 1
long-one wides node = length-append wides (node ∷ [])

dropped : (ts : List ℕ) (k : ℕ) → k < length ts → drop k ts ≡ get_or ts k 0 ∷ drop (k + 1) ts
dropped [] k h = absurd (omega arith)
dropped (t ∷ ts) zero h = refl
dropped (t ∷ ts) (suc k) h = let same : suc (k + 1) ≡ suc k + 1 = omega arith in dropped ts k (omega arith) ∙ ap (λ j. get_or ts k 0 ∷ drop j (t ∷ ts)) same

-- what waits weighs less
waits : (nodes : List Node) (tops cut : List ℕ) (w : ℕ) → w < length tops → IsCut nodes (top_at tops w) cut
    → sum_by (weight_at nodes) (drop (w + 1) (tops ++ inners_of nodes cut)) < sum_by (weight_at nodes) (drop w tops)
waits nodes tops cut w small is_cut =
    let f = weight_at nodes in
    let rest = drop (w + 1) tops in
    let less = is_cut.less in
    omega (
      arith,
      ap (sum_by f) (drop-append-le (w + 1) tops (inners_of nodes cut) (omega arith)),
      sum_by-append f rest (inners_of nodes cut),
      inners-weight nodes cut,
      ap (sum_by f) (dropped tops w small),
      sum_by-cons f (top_at tops w) rest,
    )

each-node : (nodes : List Node) (wides : List WideNode) (tops cut : List ℕ) (node : WideNode) → IsGrowing nodes wides tops → length wides < length tops
    → IsCut nodes (top_at tops (length wides)) cut → node.children ≡ eight_of (refs_of nodes (length tops) cut)
    → (v : ℕ) → v < length wides + 1 → IsNodeOver nodes (tops ++ inners_of nodes cut) v (children_in (wides ++ (node ∷ [])) v)
each-node nodes wides tops cut node growing some is_cut is_children v small =
    let more = inners_of nodes cut in
    let w = length wides in
    elim (either v w small) [
      | inl earlier ↦
          subst (IsNodeOver nodes (tops ++ more) v) (sym (children-earlier wides node v earlier))
          (node-stays nodes tops more v (children_in wides v) (omega arith) (growing.each v earlier))
      | inr last ↦
          subst (λ x. IsNodeOver nodes (tops ++ more) x (children_in (wides ++ (node ∷ [])) x)) (sym last)
          (subst (IsNodeOver nodes (tops ++ more) w) (sym (children-last wides node ∙ is_children))
          (node-new nodes tops cut w some growing.inner is_cut))
    ]

pub grown : (nodes : List Node) (wides wides1 : List WideNode) (tops tops1 cut : List ℕ) (node : WideNode) → IsGrowing nodes wides tops
    → length wides < length tops → IsCut nodes (top_at tops (length wides)) cut → node.children ≡ eight_of (refs_of nodes (length tops) cut)
    → tops1 ≡ tops ++ inners_of nodes cut → wides1 ≡ wides ++ (node ∷ []) → IsGrowing nodes wides1 tops1
grown nodes wides wides1 tops tops1 cut node growing some is_cut is_children is_tops is_wides =
    let more = inners_of nodes cut in
    let w = length wides in
    let long = long-one wides node in
    subst (λ ts. IsGrowing nodes wides1 ts) (sym is_tops) (subst (λ ws. IsGrowing nodes ws (tops ++ more)) (sym is_wides) (record {
      made = omega (arith, long, length-append tops more);
      inner = All-append (IsInnerNode nodes) tops more growing.inner (inners-inner nodes cut is_cut.each);
      each = λ v small. each-node nodes wides tops cut node growing some is_cut is_children v (omega (arith, small, long));
      few = let few = growing.few in
          omega (arith, long, waits nodes tops cut w some is_cut, ap (λ k. sum_by (weight_at nodes) (drop k (tops ++ more))) long);
      start = get_or_append_left tops more 0 0 (omega arith) ∙ growing.start;
    }))

pub less_left : (nodes : List Node) (wides wides1 : List WideNode) (tops tops1 cut : List ℕ) (node : WideNode) → length wides < length tops
    → IsCut nodes (top_at tops (length wides)) cut → tops1 ≡ tops ++ inners_of nodes cut → wides1 ≡ wides ++ (node ∷ [])
    → left_over nodes wides1 tops1 < left_over nodes wides tops
less_left nodes wides wides1 tops tops1 cut node some is_cut is_tops is_wides =
    let w = length wides in
    omega (
      arith,
      waits nodes tops cut w some is_cut,
      ap₂ (λ (k : ℕ) (ts : List ℕ). sum_by (weight_at nodes) (drop k ts)) (ap length is_wides ∙ long-one wides node) is_tops,
    )

-- the numbers of the new nodes fit
heavy : (nodes : List Node) (ns : List ℕ) → length ns ≤ sum_by (weight_at nodes) ns
heavy nodes [] = omega arith
heavy nodes (n ∷ ns) = omega (arith, heavy nodes ns, sum_by-cons (weight_at nodes) n ns, some_weight (shape_in (length nodes) nodes n))

pub room : (nodes : List Node) (wides : List WideNode) (tops cut : List ℕ) → IsGrowing nodes wides tops → length wides < length tops
    → IsCut nodes (top_at tops (length wides)) cut → length tops + length cut ≤ length nodes
room nodes wides tops cut growing some is_cut =
    let f = weight_at nodes in
    let w = length wides in
    let few = growing.few in
    let less = is_cut.less in
    let rest = drop (w + 1) tops in
    omega (
      arith,
      heavy nodes rest,
      heavy nodes cut,
      length-drop (w + 1) tops,
      ap (sum_by f) (dropped tops w some),
      sum_by-cons f (top_at tops w) rest,
    )
