-- The stated order has each active item once.
use Rattle.std.proofs.Common.{◌≡◌, ◌∙◌, ◌+◌, ◌≤◌, inl, inr, ℕ, zero, suc, not, cond, Option, None, List, length, sym, ap, ap₂, arith}
use Rattle.std.specs.Prelude.{is_some, nat_lt, nat_le}
use Rattle.std.proofs.lemmas.Bool.Decides.{nat_tests}
use Rattle.std.proofs.lemmas.List.{get_or_past}
use Rattle.std.proofs.lemmas.List.Filters.{sum_by-filter_both}
use Rattle.ray_geom.specs.Boxes.{BoxValue}
use Rattle.ray_tree.specs.Trees.{times, active}
use Rattle.ray_tree.proofs.Counting.{one, either}
use Rattle.ray_stated.specs.Order.{axis_of, rank, half, first_half, other_half, arranged, actives, stated_order}
use Rattle.ray_stated.proofs.Actives.{times-actives, times-past}
use Rattle.ray_stated.proofs.Numbers.{times-append}
use Rattle.ray_stated.proofs.Arranging.{arranged_zero, arranged_few, arranged_more}

opposite : (a b : ℕ) → nat_le b a ≡ not (nat_lt a b)
opposite a b = grind (arith, nat_tests)

halves_times : (items : List (Option BoxValue)) (ns : List ℕ) (p : ℕ) → times p (first_half items ns) + times p (other_half items ns) ≡ times p ns
halves_times items ns p =
    let place : ℕ → ℕ = λ q. rank items (axis_of items ns) ns q in
    sum_by-filter_both (λ q. nat_lt (place q) (half (length ns))) (λ q. nat_le (half (length ns)) (place q)) (λ q. opposite (place q) (half (length ns)))
    (λ q. one p q) ns

pub times-arranged : (h : ℕ) (items : List (Option BoxValue)) (ns : List ℕ) (p : ℕ) → times p (arranged h items ns) ≡ times p ns
times-arranged zero items ns p = ap (times p) (arranged_zero items ns)
times-arranged (suc h) items ns p = elim (either 4 (length ns)) [
  | inl more ↦
      ap (times p) (arranged_more h items ns more)
      ∙ times-append p (arranged h items (first_half items ns)) (arranged h items (other_half items ns))
      ∙ ap₂ (λ (a b : ℕ). a + b) (times-arranged h items (first_half items ns) p) (times-arranged h items (other_half items ns) p)
      ∙ halves_times items ns p
  | inr few ↦ ap (times p) (arranged_few (suc h) items ns few)
]

past : (items : List (Option BoxValue)) (p : ℕ) → length items ≤ p → active items p ≡ 0
past items p le = ap {B = ℕ} (λ o. cond (is_some o) 1 0) (get_or_past items p None le)

pub stated_once : (items : List (Option BoxValue)) (p : ℕ) → times p (stated_order items) ≡ active items p
stated_once items p = times-arranged 18 items (actives items (length items)) p ∙ elim (either p (length items)) [
  | inl lt ↦ times-actives items (length items) p lt
  | inr le ↦ times-past items (length items) p le ∙ sym (past items p le)
]
