-- Boxes of items, one after the other, and the parents of nodes.
use Rattle.std.proofs.Common.{◌≡◌, ◌≢◌, ◌∙◌, ◌+◌, ◌<◌, ◌≤◌, ◌*◌, ◌⊎◌, inl, inr, ℕ, zero, suc, Bool, true, false, ◌||◌, not, eqb, true≢false, [], ◌∷◌, length-set, get_or-set_same, Option, Some, None, List, length, get_or, set, refl, sym, ap, subst, arith}
use Rattle.std.proofs.lemmas.List.{get_or_past, get_or-set_other}
use Rattle.ray_geom.specs.Boxes.{BoxValue, IsBox, box_value}
use Rattle.ray_tree.proofs.Counting.{apart, either, has_items}
use Rattle.ray_tree.specs.Trees.{TreeValue, TreeOver, IsShape, tree_value, shape_at, item_box, boxes_below, active_of}
use Rattle.ray_tree.specs.Local.{IsFit}
use Rattle.ray_tree.specs.declared.node.Node.TheVariants.{Leaf, Inner}
use Rattle.ray_geom.specs.LeastBoxes.{HoldsBoxes, IsLeast}
use Rattle.std.proofs.lemmas.Bool.Decides.{nat_tests}
use mathlib.Core.Option.{some, some-injective, some-ne-none}
use mathlib.Core.Logic.{dite}
use native.Mathlib.Decide.{ℕ_discrete}
use lib.ListN.{get_elem?}
use Rattle.ray_tree.specs.declared.node.Node.{Node}
use Rattle.ray_tree.specs.Shapes.{node_at}
use Rattle.ray_climb.specs.Refits.{RefitValue, kid, is_kid, parent_of, is_right, box_over, IsRefit}
use Rattle.ray_tree.specs.NodeBoxes.{AreBoxes}
use Rattle.ray_climb.specs.Halves.{low_half, high_half, corner_of}
use Rattle.ray_climb.specs.Ready.{AreBoxesBelow, AreParentsBelow, AreParents, IsUp, IsReady, AreExact, AreTrue, HasKidsBelow, marked}
use Rattle.ray_climb.specs.declared.refit.Up.{Up}
use Rattle.ray_climb.proofs.OneParent.{below, above, parent_is}
use Rattle.ray_climb.proofs.Packing.{corner_again}
use Rattle.ray_tree.proofs.LeastOver.{is_box, least_at}

pub boxes_more : (items : List (Option BoxValue)) (i : ℕ) → AreBoxesBelow items i → ((b : BoxValue) → item_box items i ≡ Some b → IsBox b) → AreBoxesBelow items (i + 1)
boxes_more items i below here = record {
  each = λ p b lt is. elim (apart p i (omega arith)) [
    | inl a ↦ below.each p b a is
    | inr e ↦ here b (subst (λ q. item_box items q ≡ Some b) e is)
  ];
}

some_none : (b : BoxValue) → None ≡ Some b → ⊥
some_none b e = cc

pub boxes_all : (items : List (Option BoxValue)) (i : ℕ) → AreBoxesBelow items i → length items ≤ i → AreBoxes items
boxes_all items i below all = record {
  each = λ p b is. elim (either p i) [
    | inl a ↦ below.each p b a is
    | inr e ↦ absurd (some_none b (sym (get_or_past items p None (omega arith)) ∙ is))
  ];
}

-- the way up, by the parent and its node
pub is_up : (r : RefitValue) → IsShape r.tree → (n : ℕ) → n < length r.tree.nodes → n ≢ 0 → (up : Up) (parent : ℕ) (node : Node)
    → parent ≡ parent_of r.tree.nodes n → node ≡ node_at r.tree.nodes parent
    → up.parent ≡ parent → up.right ≡ eqb (kid node true) n → up.sibling ≡ kid node (not (eqb (kid node true) n)) → IsUp r n up
is_up r shape n small ne up parent node parent_is node_is up_parent up_right up_sibling =
    let at : node ≡ node_at r.tree.nodes (parent_of r.tree.nodes n) = node_is ∙ ap (node_at r.tree.nodes) parent_is in
    let b = below r.tree shape n small ne in
    let sibling : up.sibling ≡ kid (node_at r.tree.nodes (parent_of r.tree.nodes n)) (not (is_right r.tree.nodes n)) =
    up_sibling ∙ ap (λ x. kid x (not (eqb (kid x true) n))) at in
    record {
      parent = up_parent ∙ parent_is;
      right = up_right ∙ ap (λ x. eqb (kid x true) n) at;
      sibling = sibling;
      parent_small = subst (λ x. x < length r.tree.nodes) (sym (up_parent ∙ parent_is)) b.small;
      sibling_small = subst (λ x. x < length r.tree.nodes) (sym sibling)
          (above r.tree shape (parent_of r.tree.nodes n) (not (is_right r.tree.nodes n)) b.small b.inner).small;
    }

-- the children of a node are there
pub kids_below : (places many n : ℕ) (node : Node) → many ≡ n → IsFit places many node → HasKidsBelow n node
kids_below places many n (Leaf first count) e fit = tt
kids_below places many n (Inner l r) e fit = (subst (λ x. l < x) e fit.0, subst (λ x. r < x) e fit.1)

marked_long : (ps : List ℕ) (node : Node) (n : ℕ) → length (marked ps node n) ≡ length ps
marked_long ps (Leaf first count) n = refl
marked_long ps (Inner l r) n = length-set (set ps l n) r n ∙ length-set ps l n

-- the children's parents are set, and no others
marked_kid : (ps : List ℕ) (node : Node) (n c : ℕ) → c < length ps → is_kid c node ≡ true → get_or (marked ps node n) c 0 ≡ n
marked_kid ps (Leaf first count) n c small h = absurd (true≢false (sym h))
marked_kid ps (Inner l r) n c small h = dite (ℕ_discrete r c)
    (λ e. subst (λ x. get_or (set (set ps l n) x n) c 0 ≡ n) (sym e) (get_or-set_same (set ps l n) c n 0 (let long = length-set ps l n in omega arith)))
    (λ ne. get_or-set_other (set ps l n) r c n 0 (λ q. ne (sym q)) ∙ subst (λ x. get_or (set ps x n) c 0 ≡ n) (sym (left l r c ne h)) (get_or-set_same ps c n 0 small))
  where
    left : (l r c : ℕ) → r ≢ c → (eqb l c || eqb r c) ≡ true → l ≡ c
    left l r c ne h = grind (arith, nat_tests)

marked_other : (ps : List ℕ) (node : Node) (n c : ℕ) → is_kid c node ≡ false → get_or (marked ps node n) c 0 ≡ get_or ps c 0
marked_other ps (Leaf first count) n c h = refl
marked_other ps (Inner l r) n c h =
    get_or-set_other (set ps l n) r c n 0 (λ e. apart_right l r c h (sym e)) ∙ get_or-set_other ps l c n 0 (λ e. apart_left l r c h (sym e))
  where
    apart_left : (l r c : ℕ) → (eqb l c || eqb r c) ≡ false → l ≢ c
    apart_left l r c h = grind (arith, nat_tests)

    apart_right : (l r c : ℕ) → (eqb l c || eqb r c) ≡ false → r ≢ c
    apart_right l r c h = grind (arith, nat_tests)

true_or_false : (b : Bool) → (b ≡ true) ⊎ (b ≡ false)
true_or_false true = inl refl
true_or_false false = inr refl

-- one node more
pub parents_more : (tree : TreeValue) → IsShape tree → (ps : List ℕ) (n : ℕ) → n < length tree.nodes → AreParentsBelow tree ps n
    → AreParentsBelow tree (marked ps (node_at tree.nodes n) n) (n + 1)
parents_more tree shape ps n lt so_far = record {
  long = marked_long ps (node_at tree.nodes n) n ∙ so_far.long;
  each = λ c small ne less. elim (true_or_false (is_kid c (node_at tree.nodes n))) [
    | inl a ↦ marked_kid ps (node_at tree.nodes n) n c (let l = so_far.long in omega arith) a ∙ sym (parent_is tree shape c n small lt a)
    | inr b ↦ (let other : parent_of tree.nodes c ≢ n = λ e.
        true≢false (sym (subst (λ x. is_kid c (node_at tree.nodes x) ≡ true) e (below tree shape c small ne).is) ∙ b) in
        marked_other ps (node_at tree.nodes n) n c b ∙ so_far.each c small ne (less_than (parent_of tree.nodes c) n less other))
  ];
}
  where
    less_than : (p n : ℕ) → p < n + 1 → p ≢ n → p < n
    less_than p n h ne = omega arith

pub parents_all : (tree : TreeValue) → IsShape tree → (ps : List ℕ) (n : ℕ) → length tree.nodes ≤ n → AreParentsBelow tree ps n → AreParents tree ps
parents_all tree shape ps n le so_far = record {
  long = so_far.long;
  each = λ c small ne. so_far.each c small ne (let b = (below tree shape c small ne).small in omega arith);
}

-- the box of two exact words
at_word : (xs : List ℕ) (i x : ℕ) → get_elem? xs i ≡ some x → get_or xs i 0 ≡ x
at_word [] i x e = absurd (some-ne-none x (sym e))
at_word (y ∷ ys) zero x e = some-injective y x e
at_word (y ∷ ys) (suc i) x e = at_word ys i x e

pub boxed_again : (r : RefitValue) → AreBoxes r.items → (words : List ℕ) → AreExact words r → (n low high : ℕ) → n < length r.tree.nodes
    → get_elem? words (3 * n + 1) ≡ some low → get_elem? words (3 * n + 2) ≡ some high → box_value (corner_of low) (corner_of high) ≡ box_over r n
boxed_again r are words exact n low high small at_low at_high =
    let l : low ≡ low_half (box_over r n) = sym (at_word words (3 * n + 1) low at_low) ∙ exact.low n small in
    let h : high ≡ high_half (box_over r n) = sym (at_word words (3 * n + 2) high at_high) ∙ exact.high n small in
    let b = is_box r.tree r.items are n in
    λ i. box_value
    ((ap corner_of l ∙ corner_again (box_over r n).lo b.lo_short) i)
    ((ap corner_of h ∙ corner_again (box_over r n).hi b.hi_short) i)

-- the tree with these boxes
pub refitted : (r : RefitValue) → IsReady r → (boxes : List BoxValue) → AreTrue r boxes (length r.tree.nodes) → TreeOver (tree_value r.tree.nodes boxes r.tree.order) r.items
refitted r ready boxes are = record {
  shape = record {
    ends = ready.shape.ends;
    nodes_once = ready.shape.nodes_once;
    places_once = ready.shape.places_once;
    few = ready.shape.few;
    boxed = are.long;
    items_once = ready.shape.items_once;
  };
  active_once = ready.activity.active_once;
  least = λ n d small. subst (λ b. IsLeast (HoldsBoxes (boxes_below r.items r.tree.order (shape_at r.tree n))) b) (sym (are.each n d small)) (least_at r.tree r.items ready.shape ready.activity n small);
}

pub refit_by : (r : RefitValue) (boxes : List BoxValue) (nodes : List Node) (order : List ℕ) (new : TreeValue) → nodes ≡ r.tree.nodes → order ≡ r.tree.order
    → new ≡ tree_value nodes boxes order → TreeOver (tree_value nodes boxes order) r.items → IsRefit r.tree r.items new
refit_by r boxes nodes order new nodes_is order_is is over = record {
  nodes = ap (λ (t : TreeValue). t.nodes) is ∙ nodes_is;
  order = ap (λ (t : TreeValue). t.order) is ∙ order_is;
  over = subst (λ t. TreeOver t r.items) (sym is) over;
}

pub parts_over : (r : RefitValue) → IsReady r → (boxes : List BoxValue) (nodes : List Node) (order : List ℕ) → nodes ≡ r.tree.nodes → order ≡ r.tree.order
    → AreTrue r boxes (length r.tree.nodes) → TreeOver (tree_value nodes boxes order) r.items
parts_over r ready boxes nodes order nodes_is order_is are =
    subst (λ (z : List Node × List ℕ). TreeOver (tree_value z.0 boxes z.1) r.items) (λ i. (sym nodes_is i, sym order_is i)) (refitted r ready boxes are)

pub places_active : (r : RefitValue) → IsReady r → active_of r.items ≡ length r.tree.order
places_active r ready = sym (has_items r.tree.order r.items ready.activity.active_once).many
