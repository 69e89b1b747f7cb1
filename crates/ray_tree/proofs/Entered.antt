-- One entry more, and entries in another order.
use Rattle.std.proofs.Common.{◌≡◌, ◌∙◌, ◌+◌, ◌<◌, ◌≤◌, ◌⊎◌, inl, inr, ◌++◌, ℕ, cond, Option, Some, None, List, [], ◌∷◌, length, take, get_or, refl, sym, ap, subst, arith, length-take-le, zero-add}
use Rattle.std.specs.Prelude.{is_some, ◌==◌}
use Rattle.std.specs.List.Sorted.{IsPermutation}
use Rattle.std.proofs.lemmas.Bool.Decides.{nat_tests}
use Rattle.std.proofs.lemmas.List.{get_or_default, get_or-take, get_or_past}
use Rattle.std.proofs.lemmas.List.Sums.{sum_by-append}
use Rattle.std.proofs.lemmas.List.Sorted.{IsPermutation-map, sum_by-IsPermutation}
use Rattle.ray_geom.specs.Boxes.{BoxValue}
use Rattle.ray_tree.specs.declared.arrange.Entry.{Entry}
use Rattle.ray_tree.specs.Trees.{active, times, item_box}
use Rattle.ray_tree.specs.Entries.{HasEach, items_in}
use Rattle.ray_tree.proofs.Counting.{either, one}

items_in-append : (es fs : List Entry) → items_in (es ++ fs) ≡ items_in es ++ items_in fs
items_in-append [] fs = refl
items_in-append (e ∷ es) fs = ap (λ l. e.item ∷ l) (items_in-append es fs)

times-more : (p : ℕ) (es : List Entry) (e : Entry) → times p (items_in (es ++ (e ∷ []))) ≡ times p (items_in es) + one p e.item
times-more p es e =
    ap (times p) (items_in-append es (e ∷ []))
    ∙ sum_by-append (λ q. cond (q == p) 1 0) (items_in es) (e.item ∷ [])
    ∙ ap (λ x. times p (items_in es) + x) (zero-add (one p e.item))

in_front : (items : List (Option BoxValue)) (i p : ℕ) → i ≤ length items → p < i → active (take i items) p ≡ active items p
in_front items i p le lt = ap (λ o. cond (is_some o) 1 0) (get_or-take i items p None lt)

beyond : (items : List (Option BoxValue)) (i p : ℕ) → i ≤ length items → i ≤ p → active (take i items) p ≡ 0
beyond items i p le past = ap (λ o. cond (is_some o) 1 0) (get_or_past (take i items) p None (omega (arith, length-take-le i items le)))

differ : (p i : ℕ) → (p < i) ⊎ (i < p) → one p i ≡ 0
differ p i (inl a) = grind (arith, nat_tests)
differ p i (inr b) = grind (arith, nat_tests)

alike : (p : ℕ) → one p p ≡ 1
alike p = grind (arith, nat_tests)

some_more : (items : List (Option BoxValue)) (i : ℕ) (b : BoxValue) → i < length items → item_box items i ≡ Some b → (p : ℕ)
    → active (take (i + 1) items) p ≡ active (take i items) p + one p i
some_more items i b small is p = let here_is : active items i ≡ 1 = ap (λ o. cond (is_some o) 1 0) is in elim (either p i) [
  | inl a ↦ omega (arith, in_front items (i + 1) p (omega arith) (omega arith), in_front items i p (omega arith) a, differ p i (inl a))
  | inr c ↦ elim (either i p) [
    | inl d ↦ omega (arith, beyond items (i + 1) p (omega arith) (omega arith), beyond items i p (omega arith) c, differ p i (inr d))
    | inr e ↦ (let same : p ≡ i = omega arith in
        subst (λ q. active (take (i + 1) items) q ≡ active (take i items) q + one q i) (sym same)
        (omega (arith, in_front items (i + 1) i (omega arith) (omega arith), beyond items i i (omega arith) (omega arith), alike i, here_is)))
  ]
]

none_more : (items : List (Option BoxValue)) (i : ℕ) → i < length items → item_box items i ≡ None → (p : ℕ)
    → active (take (i + 1) items) p ≡ active (take i items) p
none_more items i small is p = elim (either p i) [
  | inl a ↦ in_front items (i + 1) p (omega arith) (omega arith) ∙ sym (in_front items i p (omega arith) a)
  | inr c ↦ elim (either i p) [
    | inl d ↦ beyond items (i + 1) p (omega arith) (omega arith) ∙ sym (beyond items i p (omega arith) c)
    | inr e ↦ (let same : p ≡ i = omega arith in
        subst (λ q. active (take (i + 1) items) q ≡ active (take i items) q) (sym same)
        (in_front items (i + 1) i (omega arith) (omega arith) ∙ ap (λ o. cond (is_some o) 1 0) is ∙ sym (beyond items i i (omega arith) (omega arith))))
  ]
]

pub each_some : (items : List (Option BoxValue)) (i : ℕ) (b : BoxValue) (e : Entry) (es fs : List Entry) (o : Option BoxValue) → i < length items
    → o ≡ get_or items i o → o ≡ Some b → e.item ≡ i → fs ≡ es ++ (e ∷ []) → HasEach (take i items) es → HasEach (take (i + 1) items) fs
each_some items i b e es fs o small at is numbered more has =
    let here : item_box items i ≡ Some b = get_or_default items i None o small ∙ sym at ∙ is in
    record {
      once = λ p.
          ap (λ l. times p (items_in l)) more ∙ times-more p es e
          ∙ (λ j. has.once p j + one p (numbered j))
          ∙ sym (some_more items i b small here p);
    }

none_by : (o : Option BoxValue) → ((b : BoxValue) → o ≡ Some b → ⊥) → o ≡ None
none_by None h = refl
none_by (Some b) h = absurd (h b refl)

pub each_none : (items : List (Option BoxValue)) (i : ℕ) (es : List Entry) (o : Option BoxValue) → i < length items
    → o ≡ get_or items i o → ((b : BoxValue) → o ≡ Some b → ⊥) → HasEach (take i items) es → HasEach (take (i + 1) items) es
each_none items i es o small at not has =
    let here : item_box items i ≡ None = get_or_default items i None o small ∙ sym at ∙ none_by o not in
    record { once = λ p. has.once p ∙ sym (none_more items i small here p) }

-- an order of entries
pub kept_once : (items : List (Option BoxValue)) (es fs : List Entry) (numbers : List ℕ) → HasEach items es → IsPermutation es fs → numbers ≡ items_in fs
    → (p : ℕ) → times p numbers ≡ active items p
kept_once items es fs numbers has moved is p =
    ap (times p) is
    ∙ sum_by-IsPermutation (λ q. cond (q == p) 1 0) (items_in es) (items_in fs) (IsPermutation-map (λ (e : Entry). e.item) es fs moved)
    ∙ has.once p
