-- How the nodes of a tree over items stand to each other and to the items.
use Rattle.std.proofs.Common.{◌≡◌, ◌∙◌, ◌+◌, ◌-◌, ◌*◌, ◌<◌, ◌≤◌, ◌⊎◌, inl, inr, ℕ, zero, suc, Option, Some, List, [], ◌∷◌, ◌++◌, length, take, drop, get_or, refl, sym, ap, ap₂, subst, arith, length-drop}
use Rattle.std.specs.List.{All}
use Rattle.std.specs.Option.{option_to_list}
use Rattle.std.proofs.lemmas.Bool.Decides.{nat_tests}
use Rattle.std.proofs.lemmas.List.{get_or-take, get_or-drop, take_all}
use Rattle.std.proofs.lemmas.List.Elements.{All-head}
use Rattle.std.proofs.lemmas.List.Sums.{sum_by_more}
use Rattle.ray_geom.specs.Boxes.{BoxValue, IsPart}
use Rattle.ray_geom.specs.LeastBoxes.{HoldsBoxes, IsLeast, union_of}
use Rattle.ray_geom.proofs.LeastBoxes.{IsLeast-union}
use Rattle.ray_tree.specs.Shapes.{Shape, Gone, Tip, Fork, shape_in, inside, holds, levels, AreFew}
use Rattle.ray_tree.specs.Trees.{TreeValue, shape_at, box_at, item_box, times, boxes_of, boxes_below, IsShape, TreeOver}
use Rattle.ray_tree.specs.Nesting.{AreNested, AreAround, stands, AreApart, IsLow}
use Rattle.ray_tree.proofs.LeastLists.{least_append, same_least, All-first, All-second}
use Rattle.ray_tree.proofs.NodeLaws.{at_inner, whole_at}
use Rattle.ray_tree.proofs.Under.{shape_zero}
use Rattle.ray_tree.proofs.Counting.{total, total-sum, total-same, total-none, total-inside, one, either}
use Rattle.ray_tree.proofs.Sizes.{size_of, size-is}

-- children are in their parents
pub are_nested : (tree : TreeValue) (items : List (Option BoxValue)) → TreeOver tree items → AreNested tree
are_nested tree items over = record {
  each = λ n l r d small is.
      let at = at_inner tree over.shape n l r small is in
      let lefts = boxes_below items tree.order (shape_at tree l) in
      let rights = boxes_below items tree.order (shape_at tree r) in
      let union = union_of (box_at tree d l) (box_at tree d r) in
      let same : union ≡ box_at tree d n =
      same_least (lefts ++ rights) union (box_at tree d n)
      (least_append lefts rights (box_at tree d l) (box_at tree d r) (over.least l d at.left) (over.least r d at.right))
      (subst (λ s. IsLeast (HoldsBoxes (boxes_below items tree.order s)) (box_at tree d n)) at.shape (over.least n d small)) in
      let both = (IsLeast-union (box_at tree d l) (box_at tree d r)).holds in
      record { left = subst (IsPart (box_at tree d l)) same both.first; right = subst (IsPart (box_at tree d r)) same both.second };
}

-- a box of a list is among those of which something holds
listed : (P : BoxValue → Type 0) (items : List (Option BoxValue)) (qs : List ℕ) (i : ℕ) (b : BoxValue) → i < length qs → item_box items (get_or qs i 0) ≡ Some b
    → All P (boxes_of items qs) → P b
listed P items [] i b small is all = absurd (omega arith)
listed P items (q ∷ qs) zero b small is all =
    All-head P b (boxes_of items qs) (subst (λ o. All P (option_to_list o ++ boxes_of items qs)) is all)
listed P items (q ∷ qs) (suc i) b small is all =
    listed P items qs i b (omega arith) is (All-second P (option_to_list (item_box items q)) (boxes_of items qs) all)

from_first : (at first count : ℕ) → 0 < inside at first count → (first ≤ at) × (at < first + count)
from_first at first count h = (grind (arith, nat_tests), grind (arith, nat_tests))

either_of : (a b : ℕ) → 0 < a + b → (0 < a) ⊎ (0 < b)
either_of zero b h = inr (omega arith)
either_of (suc a) b h = inl (omega arith)

held : (P : BoxValue → Type 0) (items : List (Option BoxValue)) (order : List ℕ) (s : Shape) (at : ℕ) (b : BoxValue) → at < length order → 0 < holds at s
    → item_box items (get_or order at 0) ≡ Some b → All P (boxes_below items order s) → P b
held P items order Gone at b small some is all = absurd (omega arith)
held P items order (Tip node first count) at b small some is all =
    let range = from_first at first count some in
    let low : first ≤ at = range.0 in
    let high : at < first + count = range.1 in
    let i = at - first in
    let here : get_or (take count (drop first order)) i 0 ≡ get_or order at 0 =
    get_or-take count (drop first order) i 0 (omega arith) ∙ get_or-drop first order i 0 ∙ ap (λ k. get_or order k 0) (omega arith) in
    listed P items (take count (drop first order)) i b (omega (arith, length-taken count (drop first order) i (omega arith) (omega (arith, length-drop first order))))
    (ap (item_box items) here ∙ is) all
  where
    length-taken : (n : ℕ) (l : List ℕ) (k : ℕ) → k < n → k < length l → k < length (take n l)
    length-taken zero l k a c = absurd (omega arith)
    length-taken (suc n) [] k a c = absurd (omega arith)
    length-taken (suc n) (x ∷ l) zero a c = omega arith
    length-taken (suc n) (x ∷ l) (suc k) a c = let rest = length-taken n l k (omega arith) (omega arith) in omega arith
held P items order (Fork node l r) at b small some is all = elim (either_of (holds at l) (holds at r) some) [
  | inl x ↦ held P items order l at b small x is (All-first P (boxes_below items order l) (boxes_below items order r) all)
  | inr y ↦ held P items order r at b small y is (All-second P (boxes_below items order l) (boxes_below items order r) all)
]

in_range : (n many : ℕ) → 0 < inside n 0 many → n < many
in_range n many h = grind (arith, nat_tests)

pub are_around : (tree : TreeValue) (items : List (Option BoxValue)) → TreeOver tree items → AreAround tree items
are_around tree items over = record {
  each = λ n at d box small some is.
      let w = (whole_at tree over.shape n small).holds_fewer at in
      let within : at < length tree.order = in_range at (length tree.order) (omega (arith, w, some, over.shape.places_once at)) in
      held (λ x. IsPart x (box_at tree d n)) items tree.order (shape_at tree n) at box within some is (over.least n d small).holds;
}

-- an item in the leaves, by the places
weigh : List ℕ → ℕ → ℕ → ℕ
weigh order p at = one p (get_or order at 0)

at_one : (f : ℕ → ℕ) (k x : ℕ) → inside x k 1 * f x ≡ inside x k 1 * f k
at_one f k x = elim (either x k) [
  | inl a ↦ none (below a)
  | inr b ↦ elim (either k x) [ inl d ↦ none (above d) | inr e ↦ (let same : x ≡ k = omega arith in ap (λ t. inside x k 1 * f t) same) ]
]
  where
    none : inside x k 1 ≡ 0 → inside x k 1 * f x ≡ inside x k 1 * f k
    none z = omega (arith, ap (λ t. t * f x) z, ap (λ t. t * f k) z)

    below : x < k → inside x k 1 ≡ 0
    below h = grind (arith, nat_tests)

    above : k < x → inside x k 1 ≡ 0
    above h = grind (arith, nat_tests)

scaled : (n : ℕ) (g : ℕ → ℕ) (c : ℕ) → total n (λ x. g x * c) ≡ total n g * c
scaled zero g c = omega arith
scaled (suc n) g c = omega (arith, scaled n g c)

total-one : (n k : ℕ) (f : ℕ → ℕ) → k < n → total n (λ x. inside x k 1 * f x) ≡ f k
total-one n k f small =
    let e = total-inside n k 1 (omega arith) in
    total-same n (λ x. inside x k 1 * f x) (λ x. inside x k 1 * f k) (λ x lt. at_one f k x)
    ∙ scaled n (λ x. inside x k 1) (f k)
    ∙ omega (arith, ap (λ t. t * f k) e)

none-inside : (x first : ℕ) → inside x first 0 ≡ 0
none-inside x first = grind (arith, nat_tests)

more-inside : (x first m : ℕ) → inside x first (suc m) ≡ inside x first m + inside x (first + m) 1
more-inside x first m = grind (arith, nat_tests)

total-part : (order : List ℕ) (p first count : ℕ) → first + count ≤ length order
    → total (length order) (λ x. inside x first count * weigh order p x) ≡ times p (take count (drop first order))
unfolding weigh
total-part order p first zero le =
    total-same (length order) (λ x. inside x first 0 * weigh order p x) (λ x. 0) (λ x lt. omega (arith, ap (λ t. t * weigh order p x) (none-inside x first)))
    ∙ total-none (length order)
total-part order p first (suc m) le =
    let n = length order in
    let same : suc m ≡ m + 1 = omega arith in
    let long : m < length (drop first order) = omega (arith, length-drop first order) in
    let more : times p (take (m + 1) (drop first order)) ≡ times p (take m (drop first order)) + one p (get_or (drop first order) m 0) =
    sum_by_more (λ q. one p q) (drop first order) m 0 long in
    let at : one p (get_or (drop first order) m 0) ≡ weigh order p (first + m) = ap (one p) (get_or-drop first order m 0) in
    total-same n (λ x. inside x first (suc m) * weigh order p x) (λ x. inside x first m * weigh order p x + inside x (first + m) 1 * weigh order p x)
    (λ x lt. omega (arith, ap (λ t. t * weigh order p x) (more-inside x first m)))
    ∙ total-sum n (λ x. inside x first m * weigh order p x) (λ x. inside x (first + m) 1 * weigh order p x)
    ∙ omega (arith, total-part order p first m (omega arith), total-one n (first + m) (weigh order p) (omega arith), more, at, ap (λ k. times p (take k (drop first order))) same)

last_held : (first count : ℕ) → 0 < count → 0 < inside (first + (count - 1)) first count
last_held first count h = grind (arith, nat_tests)

stands-total : (order : List ℕ) (p : ℕ) (s : Shape) → AreFew s → ((x : ℕ) → 0 < holds x s → x < length order)
    → stands order p s ≡ total (length order) (λ x. holds x s * weigh order p x)
stands-total order p Gone few within =
    sym (total-same (length order) (λ x. 0 * weigh order p x) (λ x. 0) (λ x lt. omega arith) ∙ total-none (length order))
stands-total order p (Tip node first count) few within =
    let some = few.0 in
    let small : first + (count - 1) < length order = within (first + (count - 1)) (last_held first count some) in
    sym (total-part order p first count (omega arith))
stands-total order p (Fork node l r) few within =
    let n = length order in
    ap₂ (λ a b. a + b)
    (stands-total order p l few.0 (λ x h. within x (omega (arith, h))))
    (stands-total order p r few.1 (λ x h. within x (omega (arith, h))))
    ∙ sym (total-same n (λ x. (holds x l + holds x r) * weigh order p x) (λ x. holds x l * weigh order p x + holds x r * weigh order p x) (λ x lt. omega arith)
    ∙ total-sum n (λ x. holds x l * weigh order p x) (λ x. holds x r * weigh order p x))

pub are_apart : (tree : TreeValue) (items : List (Option BoxValue)) → TreeOver tree items → AreApart tree items
are_apart tree items over = record {
  each = λ p.
      let order = tree.order in
      let n = length order in
      stands-total order p (shape_at tree 0) over.shape.few (λ x h. in_range x n (omega (arith, h, over.shape.places_once x)))
      ∙ total-same n (λ x. holds x (shape_at tree 0) * weigh order p x) (λ x. inside x 0 n * weigh order p x) (λ x lt. ap (λ t. t * weigh order p x) (over.shape.places_once x))
      ∙ total-part order p 0 n (omega arith)
      ∙ ap (times p) (take_all n order (omega arith))
      ∙ over.active_once p;
}

-- levels
levels-size : (s : Shape) → levels s ≤ size_of s
levels-size Gone = omega arith
levels-size (Tip node first count) = omega arith
levels-size (Fork node l r) = omega (arith, levels-size l, levels-size r)

low_by : (tree : TreeValue) (n : ℕ) → length tree.nodes ≡ n → IsShape tree → levels (shape_at tree 0) ≤ n
low_by tree zero e shape = omega (arith, ap levels (ap (λ k. shape_in k tree.nodes 0) e ∙ shape_zero tree.nodes 0))
low_by tree (suc n) e shape = omega (arith, e, levels-size (shape_at tree 0), size-is tree shape (omega (arith, e)))

pub is_low : (tree : TreeValue) → IsShape tree → IsLow tree
is_low tree shape = record { low = low_by tree (length tree.nodes) refl shape }
