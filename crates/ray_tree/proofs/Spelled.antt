-- What is from the root down of nodes that a plan spells.
use Rattle.std.proofs.Common.{◌≡◌, ◌∙◌, ◌+◌, ◌<◌, ◌≤◌, ◌++◌, max, ℕ, zero, suc, List, [], ◌∷◌, length, get_or, refl, sym, ap, ap₂, subst, arith, append_assoc, append-nil, length-append}
use Rattle.std.proofs.lemmas.Bool.Decides.{nat_tests}
use Rattle.ray_geom.specs.Boxes.{BoxValue}
use Rattle.ray_tree.specs.declared.node.Node.{Node}
use Rattle.ray_tree.specs.declared.node.Node.TheVariants.{Leaf, Inner}
use Rattle.ray_tree.specs.Shapes.{Fork, node_at, grow, levels, shape_in, inside, gone, visits, holds, AreFew, places}
use Rattle.ray_tree.specs.Trees.{tree_value, IsShape, times}
use Rattle.ray_tree.specs.Plans.{Plan, Few, Both, size, places_of, height_of, spell, label, AreSmall}
use Rattle.ray_tree.proofs.Under.{shape_suc}

pub size-some : (p : Plan) → 0 < size p
size-some (Few count) = omega arith
size-some (Both l r) = omega arith

pub length-spell : (at first : ℕ) (p : Plan) → length (spell at first p) ≡ size p
length-spell at first (Few count) = refl
length-spell at first (Both l r) =
    omega (
      arith,
      length-append (spell (at + 1) first l) (spell ((at + 1) + size l) (first + places_of l) r),
      length-spell (at + 1) first l,
      length-spell ((at + 1) + size l) (first + places_of l) r,
    )

middle : {X : Type 0} (before : List X) (x : X) (after : List X) (d : X) → get_or (before ++ (x ∷ after)) (length before) d ≡ x
middle [] x after d = refl
middle (b ∷ before) x after d = middle before x after d

node_middle : (before : List Node) (x : Node) (after ns : List Node) (at : ℕ) → length before ≡ at → ns ≡ before ++ (x ∷ after) → node_at ns at ≡ x
node_middle before x after ns at e is = (λ i. node_at (is i) (sym e i)) ∙ middle before x after (Leaf 0 0)

-- the first nodes of two trees, in the middle of a list
regroup_left : (before : List Node) (x : Node) (l r after : List Node) → before ++ ((x ∷ (l ++ r)) ++ after) ≡ (before ++ (x ∷ [])) ++ (l ++ (r ++ after))
regroup_left before x l r after = simp append_assoc

regroup_right : (before : List Node) (x : Node) (l r after : List Node) → before ++ ((x ∷ (l ++ r)) ++ after) ≡ (before ++ (x ∷ l)) ++ (r ++ after)
regroup_right before x l r after = simp append_assoc

pub spelled : (p : Plan) (before after ns : List Node) (at first k : ℕ) → length before ≡ at → ns ≡ before ++ (spell at first p ++ after) → size p ≤ k → shape_in k ns at ≡ label at first p
spelled p before after ns at first zero e is le = absurd (omega (arith, size-some p))
spelled (Few count) before after ns at first (suc k) e is le =
    shape_suc k ns at ∙ ap (grow (shape_in k ns) at) (node_middle before (Leaf first count) after ns at e is)
spelled (Both l r) before after ns at first (suc k) e is le =
    let x : Node = Inner (at + 1) ((at + 1) + size l) in
    let ls = spell (at + 1) first l in
    let rs = spell ((at + 1) + size l) (first + places_of l) r in
    shape_suc k ns at
    ∙ ap (grow (shape_in k ns) at) (node_middle before x ((ls ++ rs) ++ after) ns at e is)
    ∙ ap₂ (λ a b. Fork at a b)
    (spelled l (before ++ (x ∷ [])) (rs ++ after) ns (at + 1) first k
    (omega (arith, length-append before (x ∷ []), e)) (is ∙ regroup_left before x ls rs after) (omega arith))
    (spelled r (before ++ (x ∷ ls)) after ns ((at + 1) + size l) (first + places_of l) k
    (omega (arith, length-append before (x ∷ ls), length-spell (at + 1) first l, e)) (is ∙ regroup_right before x ls rs after) (omega arith))

pub gone-label : (at first : ℕ) (p : Plan) → gone (label at first p) ≡ 0
gone-label at first (Few count) = refl
gone-label at first (Both l r) = omega (arith, gone-label (at + 1) first l, gone-label ((at + 1) + size l) (first + places_of l) r)

joined : (n a b c : ℕ) → inside n a b + inside n (a + b) c ≡ inside n a (b + c)
joined n a b c = grind (arith, nat_tests)

pub visits-label : (n at first : ℕ) (p : Plan) → visits n (label at first p) ≡ inside n at (size p)
visits-label n at first (Few count) = refl
visits-label n at first (Both l r) =
    omega (
      arith,
      visits-label n (at + 1) first l,
      visits-label n ((at + 1) + size l) (first + places_of l) r,
      joined n (at + 1) (size l) (size r),
      joined n at 1 (size l + size r),
    )

pub holds-label : (x at first : ℕ) (p : Plan) → holds x (label at first p) ≡ inside x first (places_of p)
holds-label x at first (Few count) = refl
holds-label x at first (Both l r) =
    omega (arith, holds-label x (at + 1) first l, holds-label x ((at + 1) + size l) (first + places_of l) r, joined x first (places_of l) (places_of r))

pub few-label : (at first : ℕ) (p : Plan) → AreSmall p → AreFew (label at first p)
few-label at first (Few count) h = h
few-label at first (Both l r) h = (few-label (at + 1) first l h.0, few-label ((at + 1) + size l) (first + places_of l) r h.1)

pub places-label : (at first : ℕ) (p : Plan) → places (label at first p) ≡ places_of p
places-label at first (Few count) = refl
places-label at first (Both l r) = omega (arith, places-label (at + 1) first l, places-label ((at + 1) + size l) (first + places_of l) r)

pub shape_of_spell : (nodes : List Node) (p : Plan) → nodes ≡ spell 0 0 p → shape_in (length nodes) nodes 0 ≡ label 0 0 p
shape_of_spell nodes p is =
    let long : length nodes ≡ size p = ap length is ∙ length-spell 0 0 p in
    spelled p [] [] nodes 0 0 (length nodes) refl (is ∙ sym (append-nil (spell 0 0 p))) (omega (arith, long))

-- nodes that a plan spells are a tree over its places
pub shape_of_plan : (nodes : List Node) (boxes : List BoxValue) (order : List ℕ) (p : Plan)
    → nodes ≡ spell 0 0 p → places_of p ≡ length order → AreSmall p → length boxes ≡ length nodes → ((q : ℕ) → times q order ≤ 1)
    → IsShape (tree_value nodes boxes order)
shape_of_plan nodes boxes order p is full small boxed once =
    let e = shape_of_spell nodes p is in
    let long : length nodes ≡ size p = ap length is ∙ length-spell 0 0 p in
    record {
      ends = λ some. ap gone e ∙ gone-label 0 0 p;
      nodes_once = λ n. ap (visits n) e ∙ visits-label n 0 0 p ∙ ap (inside n 0) (sym long);
      places_once = λ x. ap (holds x) e ∙ holds-label x 0 0 p ∙ ap (inside x 0) full;
      few = subst AreFew (sym e) (few-label 0 0 p small);
      boxed = boxed;
      items_once = once;
    }

-- no way down is longer than the plan is high
pub levels-label : (at first : ℕ) (p : Plan) → levels (label at first p) ≡ height_of p
levels-label at first (Few count) = refl
levels-label at first (Both l r) =
    ap₂ (λ (a b : ℕ). max a b + 1) (levels-label (at + 1) first l) (levels-label ((at + 1) + size l) (first + places_of l) r)
