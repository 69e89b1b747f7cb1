-- Items that all have the same sums stand in rising number.
use Rattle.std.proofs.Common.{◌≡◌, ◌∙◌, ◌+◌, ◌^◌, ◌<◌, ◌≤◌, inl, inr, ◌++◌, ℕ, zero, suc, max, Option, List, [], ◌∷◌, length, take, drop, sym, ap, ap₂, subst, arith, length-take-le, take-append-drop}
use Rattle.std.specs.Prelude.{nat_lt, nat_le}
use Rattle.std.specs.List.{All}
use Rattle.std.specs.List.Sorted.{IsPermutation, IsNonDecreasingBy}
use Rattle.std.proofs.lemmas.List.Elements.{All-nil, All-cons, All-take, All-drop, All-map}
use Rattle.ray_geom.specs.Boxes.{BoxValue}
use Rattle.ray_tree.specs.Trees.{times}
use Rattle.ray_tree.specs.Local.{IsActive}
use Rattle.ray_tree.proofs.Counting.{either}
use Rattle.ray_stated.specs.declared.entry.Entry.{Entry}
use Rattle.ray_stated.specs.Order.{sum_of, least, width, axis_of, rank, half, first_half, other_half, arranged}
use Rattle.ray_stated.specs.Entries.{entry_sum, items_in, IsSmall, IsRising, AreArranged}
use Rattle.ray_stated.proofs.Extremes.{greatest-all, least-all}
use Rattle.ray_stated.proofs.Numbers.{times-append, all_same, rising-filter, rising_same, rising_sorted}
use Rattle.ray_stated.proofs.Halving.{AreHalved, to_items, widest-few, firsts, others}
use Rattle.ray_stated.proofs.Arranging.{arranged_zero, arranged_few, arranged_more, items_permuted}

-- parts of a list that never falls
rising-take : (k : ℕ) (ns : List ℕ) → IsRising ns → IsRising (take k ns)
rising-take zero ns up = tt
rising-take (suc k) [] up = tt
rising-take (suc k) (n ∷ ns) up = (All-take (λ y. n ≤ y) k ns up.0, rising-take k ns up.1)

rising-drop : (k : ℕ) (ns : List ℕ) → IsRising ns → IsRising (drop k ns)
rising-drop zero ns up = up
rising-drop (suc k) [] up = tt
rising-drop (suc k) (n ∷ ns) up = rising-drop k ns up.1

rising-apart : (k : ℕ) (ns : List ℕ) → IsRising ns → All (λ x. All (λ y. x ≤ y) (drop k ns)) (take k ns)
rising-apart zero ns up = All-nil (λ x. All (λ y. x ≤ y) ns)
rising-apart (suc k) [] up = All-nil (λ x. All (λ y. x ≤ y) [])
rising-apart (suc k) (n ∷ ns) up =
    All-cons (λ x. All (λ y. x ≤ y) (drop k ns)) n (take k ns) (All-drop (λ y. n ≤ y) k ns up.0) (rising-apart k ns up.1)

-- what is known of such items
record AreEven (items : List (Option BoxValue)) (s : ℕ → ℕ) (ns : List ℕ) : Type 0 where
  pub rising : IsRising ns
  pub once : (p : ℕ) → times p ns ≤ 1
  pub active : All (IsActive items) ns
  pub low : All (λ p. p < 2 ^ 20) ns
  pub same : (axis : ℕ) → axis < 3 → All (λ p. sum_of items axis p ≡ s axis) ns

even_halved : (items : List (Option BoxValue)) (s : ℕ → ℕ) (ns : List ℕ) → AreEven items s ns → 4 < length ns
    → AreHalved items (axis_of items ns) ns (take (half (length ns)) ns) (drop (half (length ns)) ns)
even_halved items s ns e more =
    let k = half (length ns) in
    let axis = axis_of items ns in
    let whole : take k ns ++ drop k ns ≡ ns = take-append-drop k ns in
    let few : axis < 3 = widest-few (width (sum_of items 0) ns) (width (sum_of items 1) ns) (width (sum_of items 2) ns) in
    let sums = e.same axis few in
    record {
      same = λ p. ap (times p) (sym whole);
      once = e.once;
      active = subst (All (IsActive items)) (sym whole) e.active;
      low = subst (All (λ p. p < 2 ^ 20)) (sym whole) e.low;
      apart = λ i d lt j b small.
          omega (
            arith,
            rising-apart k ns e.rising i d lt j b small,
            All-take (λ p. sum_of items axis p ≡ s axis) k ns sums i d lt,
            All-drop (λ p. sum_of items axis p ≡ s axis) k ns sums j b small,
          );
      long = sym (length-take-le k ns (omega arith));
    }

-- so are its parts
parts : (k : ℕ) (ns : List ℕ) (p : ℕ) → times p ns ≡ times p (take k ns) + times p (drop k ns)
parts k ns p = ap (times p) (sym (take-append-drop k ns)) ∙ times-append p (take k ns) (drop k ns)

even_take : (items : List (Option BoxValue)) (s : ℕ → ℕ) (k : ℕ) (ns : List ℕ) → AreEven items s ns → AreEven items s (take k ns)
even_take items s k ns e = record {
  rising = rising-take k ns e.rising;
  once = λ p. omega (arith, parts k ns p, e.once p);
  active = All-take (IsActive items) k ns e.active;
  low = All-take (λ p. p < 2 ^ 20) k ns e.low;
  same = λ axis few. All-take (λ p. sum_of items axis p ≡ s axis) k ns (e.same axis few);
}

even_drop : (items : List (Option BoxValue)) (s : ℕ → ℕ) (k : ℕ) (ns : List ℕ) → AreEven items s ns → AreEven items s (drop k ns)
even_drop items s k ns e = record {
  rising = rising-drop k ns e.rising;
  once = λ p. omega (arith, parts k ns p, e.once p);
  active = All-drop (IsActive items) k ns e.active;
  low = All-drop (λ p. p < 2 ^ 20) k ns e.low;
  same = λ axis few. All-drop (λ p. sum_of items axis p ≡ s axis) k ns (e.same axis few);
}

arranged_even : (h : ℕ) (items : List (Option BoxValue)) (s : ℕ → ℕ) (ns : List ℕ) → AreEven items s ns → arranged h items ns ≡ ns
arranged_even zero items s ns e = arranged_zero items ns
arranged_even (suc h) items s ns e = elim (either 4 (length ns)) [
  | inr few ↦ arranged_few (suc h) items ns few
  | inl more ↦
      (let k = half (length ns) in
      let axis = axis_of items ns in
      let halved = even_halved items s ns e more in
      let left : first_half items ns ≡ take k ns =
      rising_same (first_half items ns) (take k ns) (rising-filter (λ p. nat_lt (rank items axis ns p) (half (length ns))) ns e.rising)
      (rising-take k ns e.rising) (firsts items axis ns (take k ns) (drop k ns) halved) in
      let right : other_half items ns ≡ drop k ns =
      rising_same (other_half items ns) (drop k ns) (rising-filter (λ p. nat_le (half (length ns)) (rank items axis ns p)) ns e.rising)
      (rising-drop k ns e.rising) (others items axis ns (take k ns) (drop k ns) halved) in
      arranged_more h items ns more
      ∙ (λ i. arranged h items (left i) ++ arranged h items (right i))
      ∙ ap₂ (λ (u v : List ℕ). u ++ v) (arranged_even h items s (take k ns) (even_take items s k ns e))
      (arranged_even h items s (drop k ns) (even_drop items s k ns e))
      ∙ take-append-drop k ns)
]

-- entries whose sums aren't apart along any axis
flat : (f : Entry → ℕ) (es : List Entry) → width f es ≡ 0 → All (λ e. f e ≡ least f es) es
flat f es none = λ k d lt. omega (arith, greatest-all f es k d lt, least-all f es k d lt, none)

flat_at : (es : List Entry) (far : ℕ) → far ≡ max (max (width (entry_sum 0) es) (width (entry_sum 1) es)) (width (entry_sum 2) es) → far ≡ 0
    → (axis : ℕ) → axis < 3 → All (λ e. entry_sum axis e ≡ least (entry_sum axis) es) es
flat_at es far is none zero lt = flat (entry_sum 0) es (omega (arith, is, none))
flat_at es far is none (suc zero) lt = flat (entry_sum 1) es (omega (arith, is, none))
flat_at es far is none (suc (suc zero)) lt = flat (entry_sum 2) es (omega (arith, is, none))
flat_at es far is none (suc (suc (suc n))) lt = absurd (omega arith)

pub arranged_flat : (old new : List Entry) (far : ℕ) → far ≡ max (max (width (entry_sum 0) old) (width (entry_sum 1) old)) (width (entry_sum 2) old) → far ≡ 0
    → All IsSmall old → IsPermutation old new → IsNonDecreasingBy (λ e. e.item) new → AreArranged old new
arranged_flat old new far is none small moved up = record {
  as_said = λ h items ns le of listed.
      let s : ℕ → ℕ = λ a. least (entry_sum a) old in
      rising_same (items_in new) ns (rising_sorted new up) listed.rising (λ p. items_permuted old new moved p ∙ sym (listed.same p))
      ∙ sym (arranged_even h items s ns (record {
        rising = listed.rising;
        once = listed.once;
        active = all_same (IsActive items) ns (items_in old) listed.same listed.active;
        low = all_same (λ p. p < 2 ^ 20) ns (items_in old) listed.same (All-map (λ p. p < 2 ^ 20) (λ (e : Entry). e.item) old small);
        same = λ axis few.
            all_same (λ p. sum_of items axis p ≡ s axis) ns (items_in old) listed.same
            (to_items (λ n. n ≡ s axis) items axis old few of (flat_at old far is none axis few));
      }));
}
