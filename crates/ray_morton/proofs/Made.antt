-- The nodes over keys in order are a tree over the items.
use Rattle.std.proofs.Common.{◌≡◌, ◌∙◌, ◌+◌, ◌^◌, ◌≤◌, ◌++◌, ℕ, zero, suc, Option, List, [], ◌∷◌, length, take, drop, replicate, refl, sym, ap, ap₂, subst, arith, take_all, take-take, drop-drop, take-add}
use Rattle.std.specs.Prelude.{pos, is_some}
use Rattle.std.proofs.lemmas.Bool.Decides.{nat_tests}
use Rattle.std.proofs.lemmas.Simd.{length-replicate}
use Rattle.std.proofs.lemmas.List.{take-map, drop-map, drop-take, length-map}
use Rattle.std.proofs.lemmas.List.Sums.{count_by-le-length}
use Rattle.ray_geom.specs.Vector.{vec3}
use Rattle.ray_geom.specs.Boxes.{BoxValue, box_value}
use Rattle.ray_tree.specs.declared.node.Node.{Node}
use Rattle.ray_tree.specs.Shapes.{Gone, shape_in, inside, visits, holds, AreFew, levels}
use Rattle.ray_tree.specs.Trees.{tree_value, times, active, TreeOver, no_box}
use Rattle.ray_tree.specs.Local.{AreFit, AreLocal}
use Rattle.ray_tree.specs.Plans.{Plan, Few, Both, size, places_of, label}
use Rattle.ray_tree.proofs.Under.{shape_zero}
use Rattle.ray_tree.proofs.Spelled.{shape_of_spell, shape_of_plan, levels-label}
use Rattle.ray_tree.proofs.Filled.{spell-rises, none-rises}
use Rattle.ray_tree.proofs.Locals.{are_fit, tree_over}
use Rattle.ray_tree.proofs.Counting.{has_items, at_most_active}
use Rattle.ray_morton.specs.KeyOrder.{key_at, IsInKeyOrder}
use Rattle.ray_tree.specs.Trees.{items_below}
use Rattle.ray_morton.specs.Cuts.{IsCut, AreCut, keys_of}
use Rattle.ray_morton.specs.Entries.{IsInOrder, key_part, item_part, key_parts, item_parts}
use Rattle.ray_tree.specs.Plans.{height_of}
use Rattle.ray_morton.specs.Planted.{Cuts, IsPlanted, IsTreeOf, IsLaid}
use Rattle.ray_morton.proofs.Numbers.{keys_are, in_key_order}

-- its leaves have the places one after the other
items-label : (order : List ℕ) (at first : ℕ) (p : Plan) → items_below order (label at first p) ≡ take (places_of p) (drop first order)
items-label order at first (Few count) = refl
items-label order at first (Both l r) =
    ap₂ (λ u v. u ++ v) (items-label order (at + 1) first l)
    (items-label order ((at + 1) + size l) (first + places_of l) r ∙ ap (take (places_of r)) (sym (drop-drop (places_of l) first order)))
    ∙ sym (take-add (places_of l) (places_of r) (drop first order))

module _ (items : List (Option BoxValue)) (order : List ℕ) (first : ℕ) (l r : Plan) (numbers : List ℕ)
    (is : numbers ≡ take (places_of l + places_of r) (drop first order)) where
  left_numbers : take (places_of l) numbers ≡ take (places_of l) (drop first order)
  left_numbers = ap (take (places_of l)) is ∙ take-take (places_of l) (places_of l + places_of r) (drop first order) (omega arith)

  right_numbers : drop (places_of l) numbers ≡ take (places_of r) (drop (first + places_of l) order)
  right_numbers =
      ap (drop (places_of l)) is ∙ drop-take (places_of l) (places_of r) (drop first order)
      ∙ ap (take (places_of r)) (drop-drop (places_of l) first order)

  pub left_keys : take (places_of l) (keys_of items numbers) ≡ keys_of items (take (places_of l) (drop first order))
  left_keys = take-map _ (places_of l) numbers ∙ ap (keys_of items) left_numbers

  pub right_keys : drop (places_of l) (keys_of items numbers) ≡ keys_of items (take (places_of r) (drop (first + places_of l) order))
  right_keys = drop-map _ (places_of l) numbers ∙ ap (keys_of items) right_numbers

cut-label : (items : List (Option BoxValue)) (order : List ℕ) (at first : ℕ) (p : Plan) (numbers : List ℕ) → numbers ≡ take (places_of p) (drop first order)
    → Cuts (keys_of items numbers) p → AreCut items order (label at first p)
cut-label items order at first (Few count) numbers is cuts = tt
cut-label items order at first (Both l r) numbers is cuts =
    let lefts = take (places_of l) (drop first order) in
    let rights = take (places_of r) (drop (first + places_of l) order) in
    let a = left_keys items order first l r numbers is in
    let b = right_keys items order first l r numbers is in
    let below_left = items-label order (at + 1) first l in
    let below_right = items-label order ((at + 1) + size l) (first + places_of l) r in (
      subst (λ ls. IsCut (keys_of items ls) (keys_of items (items_below order (label ((at + 1) + size l) (first + places_of l) r)))) (sym below_left)
          (subst (λ rs. IsCut (keys_of items lefts) (keys_of items rs)) (sym below_right)
          (subst (λ ks. IsCut ks (keys_of items rights)) a (subst (λ ks. IsCut (take (places_of l) (keys_of items numbers)) ks) b cuts.0))),
      cut-label items order (at + 1) first l lefts refl (subst (λ ks. Cuts ks l) a cuts.1),
      cut-label items order ((at + 1) + size l) (first + places_of l) r rights refl (subst (λ ks. Cuts ks r) b cuts.2),
    )

once-most : (order : List ℕ) (items : List (Option BoxValue)) → ((p : ℕ) → times p order ≡ active items p) → (q : ℕ) → times q order ≤ 1
once-most order items once q = omega (arith, once q, at_most_active items q)

outside : (n many : ℕ) → many ≡ 0 → 0 ≡ inside n 0 many
outside n many e = grind (arith, nat_tests)

-- of no items
made_none : (items : List (Option BoxValue)) (order : List ℕ) (nodes : List Node) → length order ≡ 0 → IsInKeyOrder items order → nodes ≡ [] → IsLaid items order nodes
made_none items order nodes none sorted is =
    let gone : shape_in (length nodes) nodes 0 ≡ Gone = ap (λ k. shape_in k nodes 0) (ap length is) ∙ shape_zero nodes 0 in
    let empty : order ≡ [] = none_in order none in
    record {
      once = sorted.once;
      shape = λ boxes boxed. record {
        ends = λ some. absurd (omega (arith, ap length is, some));
        nodes_once = λ n. ap (visits n) gone ∙ outside n (length nodes) (ap length is);
        places_once = λ x. ap (holds x) gone ∙ outside x (length order) none;
        few = subst AreFew (sym gone) tt;
        boxed = boxed;
        items_once = once-most order items sorted.once;
      };
      rising = none-rises nodes is;
      sorted = subst (λ s. IsInKeyOrder items (items_below order s)) (sym gone) (subst (IsInKeyOrder items) empty sorted);
      cut = subst (AreCut items order) (sym gone) tt;
      low = omega (arith, ap levels gone);
    }
  where
    none_in : (xs : List ℕ) → length xs ≡ 0 → xs ≡ []
    none_in [] e = refl
    none_in (x ∷ xs) e = absurd (omega (arith, e))

-- and of some
made_some : (items : List (Option BoxValue)) (order : List ℕ) (nodes : List Node) → IsInKeyOrder items order
    → IsPlanted (keys_of items order) 0 79 [] nodes → IsLaid items order nodes
made_some items order nodes sorted planted =
    let p = planted.plan in
    let shape = shape_of_spell nodes p planted.spelled in
    let full : places_of p ≡ length order = planted.full ∙ length-map order _ in
    let whole : take (places_of p) (drop 0 order) ≡ order = take_all (places_of p) order (omega (arith, full)) in
    let low = planted.low in
    record {
      once = sorted.once;
      shape = λ boxes boxed. shape_of_plan nodes boxes order p planted.spelled full planted.small boxed (once-most order items sorted.once);
      rising = spell-rises nodes p planted.spelled;
      sorted = subst (IsInKeyOrder items) (sym (ap (items_below order) shape ∙ items-label order 0 0 p ∙ whole)) sorted;
      cut = subst (AreCut items order) (sym shape) (cut-label items order 0 0 p order (sym whole) planted.cut);
      low = omega (arith, ap levels shape, levels-label 0 0 p, low);
    }

made_by : (items : List (Option BoxValue)) (order : List ℕ) (nodes : List Node) (n : ℕ) → length order ≡ n → IsInKeyOrder items order
    → IsTreeOf (keys_of items order) nodes → IsLaid items order nodes
made_by items order nodes zero e sorted tree = made_none items order nodes e sorted (tree.none (length-map order _ ∙ e))
made_by items order nodes (suc n) e sorted tree =
    made_some items order nodes sorted (tree.some (omega (arith, e, length-map order (key_at items))))

pub made : (items : List (Option BoxValue)) (entries keys order : List ℕ) (nodes : List Node) → IsInOrder items entries → keys ≡ key_parts entries
    → order ≡ item_parts entries → IsTreeOf keys nodes → IsLaid items order nodes
made items entries keys order nodes sorted is_keys is_order tree =
    let same : keys ≡ keys_of items order = is_keys ∙ keys_are items entries sorted.has.keyed ∙ ap (keys_of items) (sym is_order) in
    made_by items order nodes (length order) refl (in_key_order items entries order sorted is_order) (subst (λ ks. IsTreeOf ks nodes) same tree)

-- what the nodes name is there
pub made-fit : (items : List (Option BoxValue)) (order : List ℕ) (nodes : List Node) → IsLaid items order nodes → AreFit (length order) nodes
made-fit items order nodes m =
    let boxes = replicate (length nodes) no_box in
    are_fit (tree_value nodes boxes order) (m.shape boxes (length-replicate (length nodes) no_box))

-- with the boxes node by node it is a tree over the items
pub made-over : (items : List (Option BoxValue)) (order : List ℕ) (nodes : List Node) (boxes : List BoxValue) → IsLaid items order nodes
    → length boxes ≡ length nodes → AreLocal items order boxes nodes → TreeOver (tree_value nodes boxes order) items
made-over items order nodes boxes m boxed local =
    tree_over (tree_value nodes boxes order) items (m.shape boxes boxed) (has_items order items m.once) local

-- there are at most as many as items
pub few_entries : (items : List (Option BoxValue)) (entries : List ℕ) → IsInOrder items entries → length items ≤ 2 ^ 20 → length (key_parts entries) ≤ 2 ^ 20
few_entries items entries sorted few =
    let many = (has_items (item_parts entries) items sorted.has.once).many in
    omega (arith, few, many, count_by-le-length is_some items, length-map entries key_part, length-map entries item_part)
