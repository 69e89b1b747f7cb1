-- Entries that are sorted, or cut and arranged on both sides, are in the order of the stated tree.
use Rattle.std.proofs.Common.{◌≡◌, ◌∙◌, ◌+◌, ◌-◌, ◌*◌, ◌/◌, ◌^◌, ◌<◌, ◌≤◌, inl, inr, ◌++◌, ℕ, zero, suc, Option, List, length, take, drop, get_or, refl, sym, ap, ap₂, subst, arith, length-take-le, length-drop, take-append-drop}
use Rattle.std.proofs.lemmas.List.{length-map}
use Rattle.std.specs.Prelude.{nat_lt, nat_le, if◌then◌else◌}
use Rattle.std.specs.List.{All}
use Rattle.std.specs.List.Sorted.{IsPermutation, IsNonDecreasingBy}
use Rattle.std.proofs.Math.Nat.{pow-suc, pow-zero}
use Rattle.std.proofs.lemmas.Bool.{le-leb, lt-leb}
use Rattle.std.proofs.lemmas.List.Elements.{All-weaker, All-map, All-take, All-drop}
use Rattle.std.proofs.lemmas.List.Sorted.{IsPermutation-map, sum_by-IsPermutation, All-permutation, length_permutation}
use Rattle.ray_geom.specs.Boxes.{BoxValue}
use Rattle.ray_tree.specs.Trees.{times}
use Rattle.ray_tree.specs.Local.{IsActive}
use Rattle.ray_tree.proofs.LeastLists.{All-first, All-second}
use Rattle.ray_tree.proofs.Counting.{one, active-below, at_most_active, either}
use Rattle.ray_stated.specs.declared.entry.Entry.{Entry}
use Rattle.ray_stated.specs.Order.{sum_of, width, widest, axis_of, key, rank, half, first_half, other_half, arranged, actives, stated_order}
use Rattle.ray_stated.specs.Entries.{entry_at, entry_sum, entry_key, items_in, AreOf, IsSmall, IsCut, IsListed, AreArranged}
use Rattle.ray_stated.proofs.Actives.{actives-active, actives-rise, actives-few, times-actives, times-past}
use Rattle.ray_stated.proofs.Entered.{items_in-append}
use Rattle.ray_stated.proofs.Numbers.{AreSame, times-append, all_same, length_same, rising-filter, rising_same, rising_sorted}
use Rattle.ray_stated.proofs.Halving.{AreHalved, sums_same, axis_same, widest-few, firsts, others}

-- none, few items, and more
pub arranged_zero : (items : List (Option BoxValue)) (ns : List ℕ) → arranged zero items ns ≡ ns
unfolding arranged
arranged_zero items ns = refl

pub arranged_few : (h : ℕ) (items : List (Option BoxValue)) (ns : List ℕ) → length ns ≤ 4 → arranged h items ns ≡ ns
unfolding arranged
arranged_few zero items ns le = refl
arranged_few (suc h) items ns le =
    ap (λ b. if b then ns else arranged h items (first_half items ns) ++ arranged h items (other_half items ns)) (le-leb (length ns) 4 le)

pub arranged_more : (h : ℕ) (items : List (Option BoxValue)) (ns : List ℕ) → 4 < length ns
    → arranged (suc h) items ns ≡ arranged h items (first_half items ns) ++ arranged h items (other_half items ns)
unfolding arranged
arranged_more h items ns lt =
    ap (λ b. if b then ns else arranged h items (first_half items ns) ++ arranged h items (other_half items ns)) (lt-leb (length ns) 4 lt)

below : (items : List (Option BoxValue)) (l : List ℕ) → All (IsActive items) l → All (λ q. q < length items) l
below items l all = All-weaker (IsActive items) (λ q. q < length items) (λ q a. active-below items q a) l all

pub items_permuted : (old new : List Entry) → IsPermutation old new → AreSame (items_in new) (items_in old)
items_permuted old new moved p = sum_by-IsPermutation (λ q. one p q) (items_in old) (items_in new) (IsPermutation-map (λ (e : Entry). e.item) old new moved)

listed_long : (items : List (Option BoxValue)) (ns : List ℕ) (es : List Entry) → IsListed items ns (items_in es) → length ns ≡ length es
listed_long items ns es listed =
    length_same (length items) ns (items_in es) listed.same (below items ns (all_same (IsActive items) ns (items_in es) listed.same listed.active))
    (below items (items_in es) listed.active)
    ∙ length-map es (λ (e : Entry). e.item)

pub arranged_sorted : (old new : List Entry) → length old ≤ 4 → IsPermutation old new → IsNonDecreasingBy (λ e. e.item) new → AreArranged old new
arranged_sorted old new few moved up = record {
  as_said = λ h items ns le of listed.
      rising_same (items_in new) ns (rising_sorted new up) listed.rising (λ p. items_permuted old new moved p ∙ sym (listed.same p))
      ∙ sym (arranged_few h items ns (omega (arith, listed_long items ns old listed, few)));
}

-- an entry's key is its item's
keys_same : (items : List (Option BoxValue)) (axis : ℕ) (e : Entry) → axis < 3 → e ≡ entry_at items e.item → entry_key axis e ≡ key items axis e.item
keys_same items axis e lt is = ap (λ n. n * 2 ^ 20 + e.item) (sums_same items axis e lt is)

keys_apart : (items : List (Option BoxValue)) (axis many : ℕ) (whole left right : List Entry) → axis < 3 → AreOf items left → AreOf items right
    → take many whole ≡ left → drop many whole ≡ right → IsCut axis many whole
    → All (λ x. All (λ y. key items axis x ≤ key items axis y) (items_in right)) (items_in left)
keys_apart items axis many whole left right lt of_left of_right t d cut =
    let parted : All (λ x. All (λ y. entry_key axis x ≤ entry_key axis y) right) left =
    subst (λ l. All (λ x. All (λ y. entry_key axis x ≤ entry_key axis y) l) left) d
    (subst (λ l. All (λ x. All (λ y. entry_key axis x ≤ entry_key axis y) (drop many whole)) l) t cut) in
    All-map (λ x. All (λ y. key items axis x ≤ key items axis y) (items_in right)) (λ (e : Entry). e.item) left
    (λ k a small. All-map (λ y. key items axis (get_or left k a).item ≤ key items axis y) (λ (e : Entry). e.item) right
    (λ j b low. omega (arith, keys_same items axis (get_or left k a) lt (of_left k a small), keys_same items axis (get_or right j b) lt (of_right j b low), parted k a small j b low)))

-- entries that were cut in two
pub record AreCut (old whole left right : List Entry) (many : ℕ) : Type 0 where
  pub large : 4 < length old
  pub half_is : many ≡ (length old + 1) / 2
  pub small : All IsSmall old
  pub moved : IsPermutation old whole
  pub cut : IsCut (widest (width (entry_sum 0) old) (width (entry_sum 1) old) (width (entry_sum 2) old)) many whole
  pub left_is : left ≡ take many whole
  pub right_is : right ≡ drop many whole

module _ (old whole left right : List Entry) (many : ℕ) (c : AreCut old whole left right many) (h : ℕ) (items : List (Option BoxValue)) (ns : List ℕ)
    (le : length old ≤ 4 * 2 ^ suc h) (of : AreOf items old) (listed : IsListed items ns (items_in old)) where
  long_whole : length whole ≡ length old
  long_whole = length_permutation old whole c.moved

  within : many ≤ length whole
  within = let e = c.half_is in let large = c.large in omega (arith, long_whole)

  long_left : length left ≡ many
  long_left = ap length c.left_is ∙ length-take-le many whole within

  long_right : length right ≡ length old - many
  long_right = ap length c.right_is ∙ length-drop many whole ∙ ap (λ n. n - many) long_whole

  of_whole : AreOf items whole
  of_whole = All-permutation (λ e. e ≡ entry_at items e.item) old whole c.moved of

  of_left : AreOf items left
  of_left = subst (AreOf items) (sym c.left_is) (All-take (λ e. e ≡ entry_at items e.item) many whole of_whole)

  of_right : AreOf items right
  of_right = subst (AreOf items) (sym c.right_is) (All-drop (λ e. e ≡ entry_at items e.item) many whole of_whole)

  parts : items_in whole ≡ items_in left ++ items_in right
  parts =
      ap items_in (sym (take-append-drop many whole) ∙ (λ i. sym c.left_is i ++ sym c.right_is i))
      ∙ items_in-append left right

  same : AreSame ns (items_in left ++ items_in right)
  same p = listed.same p ∙ sym (items_permuted old whole c.moved p) ∙ ap (times p) parts

  back : AreSame (items_in left ++ items_in right) (items_in old)
  back p = sym (same p) ∙ listed.same p

  are_active : All (IsActive items) (items_in left ++ items_in right)
  are_active = all_same (IsActive items) (items_in left ++ items_in right) (items_in old) back listed.active

  axis_is : widest (width (entry_sum 0) old) (width (entry_sum 1) old) (width (entry_sum 2) old) ≡ axis_of items ns
  axis_is = axis_same items old ns of listed.same

  pub are_halved : AreHalved items (axis_of items ns) ns (items_in left) (items_in right)
  are_halved = record {
    same = same;
    once = listed.once;
    active = are_active;
    low = all_same (λ p. p < 2 ^ 20) (items_in left ++ items_in right) (items_in old) back (All-map (λ p. p < 2 ^ 20) (λ (e : Entry). e.item) old c.small);
    apart =
        keys_apart items (axis_of items ns) many whole left right
        (widest-few (width (sum_of items 0) ns) (width (sum_of items 1) ns) (width (sum_of items 2) ns)) of_left of_right (sym c.left_is) (sym c.right_is)
        (subst (λ a. IsCut a many whole) axis_is c.cut);
    long =
        ap half (listed_long items ns old listed) ∙ sym c.half_is ∙ sym long_left ∙ sym (length-map left (λ (e : Entry). e.item));
  }

  sums : (p : ℕ) → times p ns ≡ times p (items_in left) + times p (items_in right)
  sums p = same p ∙ times-append p (items_in left) (items_in right)

  listed_left : IsListed items (first_half items ns) (items_in left)
  listed_left = record {
    rising = rising-filter (λ p. nat_lt (rank items (axis_of items ns) ns p) (half (length ns))) ns listed.rising;
    once = λ p. omega (arith, firsts items (axis_of items ns) ns (items_in left) (items_in right) are_halved p, sums p, listed.once p);
    same = firsts items (axis_of items ns) ns (items_in left) (items_in right) are_halved;
    active = All-first (IsActive items) (items_in left) (items_in right) are_active;
  }

  listed_right : IsListed items (other_half items ns) (items_in right)
  listed_right = record {
    rising = rising-filter (λ p. nat_le (half (length ns)) (rank items (axis_of items ns) ns p)) ns listed.rising;
    once = λ p. omega (arith, others items (axis_of items ns) ns (items_in left) (items_in right) are_halved p, sums p, listed.once p);
    same = others items (axis_of items ns) ns (items_in left) (items_in right) are_halved;
    active = All-second (IsActive items) (items_in left) (items_in right) are_active;
  }

  pub halves_arranged : (left1 right1 : List Entry) → AreArranged left left1 → AreArranged right right1 → items_in (left1 ++ right1) ≡ arranged (suc h) items ns
  halves_arranged left1 right1 a b =
      let twice = pow-suc 2 h in
      let e = c.half_is in
      let many_items : 4 < length ns = let large = c.large in omega (arith, listed_long items ns old listed) in
      items_in-append left1 right1
      ∙ ap₂ (λ (u v : List ℕ). u ++ v)
      (a.as_said h items (first_half items ns) (omega (arith, le, twice, long_left, e)) of_left listed_left)
      (b.as_said h items (other_half items ns) (omega (arith, le, twice, long_right, e)) of_right listed_right)
      ∙ sym (arranged_more h items ns many_items)

pub arranged_both : (old whole left right left1 right1 : List Entry) (many : ℕ) → AreCut old whole left right many
    → AreArranged left left1 → AreArranged right right1 → AreArranged old (left1 ++ right1)
arranged_both old whole left right left1 right1 many c a b = record { as_said = by }
  where
    by : (h : ℕ) (items : List (Option BoxValue)) (ns : List ℕ) → length old ≤ 4 * 2 ^ h → AreOf items old
        → IsListed items ns (items_in old) → items_in (left1 ++ right1) ≡ arranged h items ns
    by zero items ns le of listed = absurd (let large = c.large in omega (arith, pow-zero 2, le))
    by (suc h) items ns le of listed = halves_arranged old whole left right many c h items ns le of listed left1 right1 a b

-- all active items
pub once_stands : (items : List (Option BoxValue)) (p : ℕ) → times p (actives items (length items)) ≤ 1
once_stands items p = elim (either p (length items)) [
  | inl lt ↦ omega (arith, times-actives items (length items) p lt, at_most_active items p)
  | inr le ↦ omega (arith, times-past items (length items) p le)
]

pub listed_actives : (items : List (Option BoxValue)) (ms : List ℕ) → ms ≡ actives items (length items) → IsListed items (actives items (length items)) ms
listed_actives items ms is = record {
  rising = actives-rise items (length items);
  once = once_stands items;
  same = λ p. ap (times p) (sym is);
  active = subst (All (IsActive items)) (sym is) (actives-active items (length items));
}

pub all_arranged : (items : List (Option BoxValue)) (old new : List Entry) → length items ≤ 2 ^ 20 → AreOf items old → items_in old ≡ actives items (length items)
    → AreArranged old new → items_in new ≡ stated_order items
all_arranged items old new few of each arranged =
    let long : length old ≤ length items = omega (arith, length-map old (λ (e : Entry). e.item), ap length each, actives-few items (length items)) in
    arranged.as_said 18 items (actives items (length items)) (omega (arith, long, few)) of (listed_actives items (items_in old) each)
