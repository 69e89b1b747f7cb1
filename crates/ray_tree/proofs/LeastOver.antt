-- The least box of the items from a node down.
use Rattle.std.proofs.Common.{◌≡◌, ℕ, zero, suc, ◌<◌, ◌^◌, pos, ◌↔◌, Option, Some, None, IfSome, cond, is_some, fold, List, [], ◌∷◌, ◌++◌, length, take, drop, refl, ap, subst, arith, length-drop}
use Rattle.std.specs.Prelude.{unwrap_or}
use Rattle.std.specs.List.{All}
use Rattle.std.specs.Option.{option_to_list}
use Rattle.std.proofs.lemmas.Bool.Decides.{nat_tests}
use Rattle.std.proofs.lemmas.List.Elements.{All-nil, All-cons, All-append, All-take, All-drop, All-head, All-tail}
use Rattle.std.proofs.lemmas.Int.{ints}
use Rattle.ray_geom.specs.Vector.{IsWithin}
use Rattle.ray_geom.specs.Boxes.{BoxValue, IsBox}
use Rattle.ray_geom.specs.LeastBoxes.{HoldsBoxes, IsLeast, union_of, joined_of, box_of_boxes}
use Rattle.ray_geom.proofs.LeastBoxes.{IsBox-union, IsLeastOf-boxes}
use Rattle.ray_tree.specs.declared.node.Node.TheVariants.{Leaf, Inner}
use Rattle.ray_tree.specs.Shapes.{Shape, Gone, Tip, Fork, node_at, inside, gone, holds, AreFew}
use Rattle.ray_tree.specs.Trees.{TreeValue, IsShape, no_box, shape_at, item_box, boxes_of, boxes_in, boxes_below}
use Rattle.ray_tree.specs.Local.{IsActive}
use Rattle.ray_tree.proofs.NodeLaws.{whole_at, at_leaf, at_inner}
use Rattle.ray_tree.proofs.LeastLists.{least_append, same_least}
use Rattle.ray_tree.proofs.Counting.{has_items}
use Rattle.ray_tree.specs.NodeBoxes.{HasActivity, AreBoxes, least_box}

-- an active item has a box
length_one : (o : Option BoxValue) → cond {A = ℕ} (is_some o) 1 0 ≡ 1 → 0 < length (option_to_list o)
length_one None h = absurd (omega arith)
length_one (Some b) h = omega arith

append_some : (xs ys : List BoxValue) → 0 < length xs → 0 < length (xs ++ ys)
append_some [] ys h = absurd (omega arith)
append_some (x ∷ xs) ys h = omega arith

some_boxes : (items : List (Option BoxValue)) (ps : List ℕ) → 0 < length ps → All (IsActive items) ps → 0 < length (boxes_of items ps)
some_boxes items [] h all = absurd (omega arith)
some_boxes items (p ∷ ps) h all =
    append_some (option_to_list (item_box items p)) (boxes_of items ps) (length_one (item_box items p) (All-head (IsActive items) p ps all))

taken_some : (count : ℕ) (ps : List ℕ) → 0 < count → 0 < length ps → 0 < length (take count ps)
taken_some zero ps h l = absurd (omega arith)
taken_some (suc c) [] h l = absurd (omega arith)
taken_some (suc c) (p ∷ ps) h l = omega arith

first_held : (first count : ℕ) → 0 < count → inside first first count ≡ 1
first_held first count h = grind (arith, nat_tests)

-- there are items from each node down
below_some : (items : List (Option BoxValue)) (order : List ℕ) (s : Shape) → All (IsActive items) order → gone s ≡ 0 → AreFew s
    → ((x : ℕ) → 0 < holds x s → x < length order) → 0 < length (boxes_below items order s)
below_some items order Gone all ends few within = absurd (omega (arith, ends))
below_some items order (Tip node first count) all ends few within =
    let there : first < length order = within first (let e = first_held first count few.0 in omega arith) in
    let l = length-drop first order in
    some_boxes items (take count (drop first order)) (taken_some count (drop first order) few.0 (omega arith))
    (All-take (IsActive items) count (drop first order) (All-drop (IsActive items) first order all))
below_some items order (Fork node l r) all ends few within =
    append_some (boxes_below items order l) (boxes_below items order r)
    (below_some items order l all (omega (arith, ends)) few.0 (λ x h. within x (omega (arith, h))))

all_inside : (n many : ℕ) → 0 < inside n 0 many → n < many
all_inside n many h = grind (arith, nat_tests)

-- what there is, is the least box
least_some : (boxes : List BoxValue) (o : Option BoxValue) → 0 < length boxes → IfSome o (IsLeast (HoldsBoxes boxes)) → ((o ≡ None) ↔ (boxes ≡ [])) → IsLeast (HoldsBoxes boxes) (unwrap_or o no_box)
least_some boxes None h least none = absurd (let e = ap length (none.0 refl) in omega arith)
least_some boxes (Some b) h least none = least

folded_box : (boxes : List BoxValue) (o : Option BoxValue) → IfSome o IsBox → All IsBox boxes → IfSome (fold joined_of o boxes) IsBox
folded_box [] o h all = h
folded_box (b ∷ bs) None h all = folded_box bs (Some b) (All-head IsBox b bs all) (All-tail IsBox b bs all)
folded_box (b ∷ bs) (Some a) h all = folded_box bs (Some (union_of a b)) (IsBox-union a b h (All-head IsBox b bs all)) (All-tail IsBox b bs all)

-- the boxes of items are within the limits
item_boxes : (o : Option BoxValue) → ((b : BoxValue) → o ≡ Some b → IsBox b) → All IsBox (option_to_list o)
item_boxes None h = All-nil IsBox
item_boxes (Some b) h = All-cons IsBox b [] (h b refl) (All-nil IsBox)

boxes_are : (items : List (Option BoxValue)) → AreBoxes items → (ps : List ℕ) → All IsBox (boxes_of items ps)
boxes_are items are [] = All-nil IsBox
boxes_are items are (p ∷ ps) = All-append IsBox (option_to_list (item_box items p)) (boxes_of items ps) (item_boxes (item_box items p) (are.each p)) (boxes_are items are ps)

below_are : (items : List (Option BoxValue)) (order : List ℕ) → AreBoxes items → (s : Shape) → All IsBox (boxes_below items order s)
below_are items order are Gone = All-nil IsBox
below_are items order are (Tip node first count) = boxes_are items are (take count (drop first order))
below_are items order are (Fork node l r) = All-append IsBox (boxes_below items order l) (boxes_below items order r) (below_are items order are l) (below_are items order are r)

box_or : (o : Option BoxValue) → IfSome o IsBox → IsBox (unwrap_or o no_box)
box_or None h = record {
  lo_short = record { x_within = none; y_within = none; z_within = none };
  hi_short = record { x_within = none; y_within = none; z_within = none };
  x_ordered = omega (arith, ints);
  y_ordered = omega (arith, ints);
  z_ordered = omega (arith, ints);
}
  where
    none : IsWithin (2 ^ 19) (pos 0)
    none = record { above = omega (arith, ints); below = omega (arith, ints) }
box_or (Some b) h = h

pub is_box : (tree : TreeValue) (items : List (Option BoxValue)) → AreBoxes items → (n : ℕ) → IsBox (least_box items tree n)
unfolding least_box
is_box tree items are n =
    box_or (box_of_boxes (boxes_below items tree.order (shape_at tree n)))
    (folded_box (boxes_below items tree.order (shape_at tree n)) None tt (below_are items tree.order are (shape_at tree n)))

module _ (tree : TreeValue) (items : List (Option BoxValue)) (shape : IsShape tree) (activity : HasActivity tree items) where
  pub least_at : (n : ℕ) → n < length tree.nodes → IsLeast (HoldsBoxes (boxes_below items tree.order (shape_at tree n))) (least_box items tree n)
  unfolding least_box
  least_at n small =
      let w = whole_at tree shape n small in
      let boxes = boxes_below items tree.order (shape_at tree n) in
      let has = has_items tree.order items activity.active_once in
      let there : 0 < length boxes = below_some items tree.order (shape_at tree n) has.each w.ends w.few
      (λ x h. all_inside x (length tree.order) (let f = w.holds_fewer x in let o = shape.places_once x in omega arith)) in
      let l = IsLeastOf-boxes boxes (box_of_boxes boxes) refl in
      least_some boxes (box_of_boxes boxes) there l.0 l.1

  -- the box of an inner node is the union of its children's
  pub over_union : (n l s : ℕ) → n < length tree.nodes → node_at tree.nodes n ≡ Inner l s → least_box items tree n ≡ union_of (least_box items tree l) (least_box items tree s)
  over_union n l s small is =
      let at = at_inner tree shape n l s small is in
      let lefts = boxes_below items tree.order (shape_at tree l) in
      let rights = boxes_below items tree.order (shape_at tree s) in
      same_least (lefts ++ rights) (least_box items tree n) (union_of (least_box items tree l) (least_box items tree s))
      (subst (λ x. IsLeast (HoldsBoxes (boxes_below items tree.order x)) (least_box items tree n)) at.shape (least_at n small))
      (least_append lefts rights (least_box items tree l) (least_box items tree s) (least_at l at.left) (least_at s at.right))

  -- so is that of a leaf
  pub leaf_is : (n first count : ℕ) (b : BoxValue) → n < length tree.nodes → node_at tree.nodes n ≡ Leaf first count
      → IsLeast (HoldsBoxes (boxes_in items tree.order first count)) b → b ≡ least_box items tree n
  leaf_is n first count b small is least =
      same_least (boxes_in items tree.order first count) b (least_box items tree n) least
      (subst (λ s. IsLeast (HoldsBoxes (boxes_below items tree.order s)) (least_box items tree n)) (at_leaf tree shape n first count small is).shape (least_at n small))
