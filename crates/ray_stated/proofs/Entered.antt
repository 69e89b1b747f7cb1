-- Entries of the active items so far.
use Rattle.std.proofs.Common.{◌≡◌, ◌∙◌, ◌+◌, ◌<◌, ◌^◌, ◌++◌, ℕ, true, false, Option, Some, None, List, [], ◌∷◌, length, get_or, refl, sym, ap, subst, append-nil}
use Rattle.std.specs.Prelude.{is_some}
use Rattle.std.specs.List.{All}
use Rattle.std.proofs.lemmas.List.{get_or_default}
use Rattle.std.proofs.lemmas.List.Elements.{All-nil, All-push}
use Rattle.ray_geom.specs.Boxes.{BoxValue}
use Rattle.ray_tree.specs.Trees.{item_box}
use Rattle.ray_stated.specs.declared.entry.Entry.{Entry}
use Rattle.ray_stated.specs.Order.{box_sum, sum_in, actives}
use Rattle.ray_stated.specs.Entries.{entry_at, items_in, AreOf, IsSmall}
use Rattle.ray_stated.proofs.Actives.{actives_zero, actives_more, if_active}

pub record IsEntered (items : List (Option BoxValue)) (i : ℕ) (es : List Entry) : Type 0 where
  pub of : AreOf items es
  pub small : All IsSmall es
  pub each : items_in es ≡ actives items i

pub items_in-append : (es fs : List Entry) → items_in (es ++ fs) ≡ items_in es ++ items_in fs
items_in-append [] fs = refl
items_in-append (e ∷ es) fs = ap (λ l. e.item ∷ l) (items_in-append es fs)

pub entered_none : (items : List (Option BoxValue)) (es : List Entry) → es ≡ [] → IsEntered items 0 es
entered_none items es is = record {
  of = subst (AreOf items) (sym is) (All-nil (λ e. e ≡ entry_at items e.item));
  small = subst (All IsSmall) (sym is) (All-nil IsSmall);
  each = ap items_in is ∙ sym (actives_zero items);
}

-- an entry of an item with this box
its_entry : (items : List (Option BoxValue)) (i : ℕ) (b : BoxValue) (e : Entry) → item_box items i ≡ Some b
    → e.sums ≡ box_sum 0 b ∷ box_sum 1 b ∷ box_sum 2 b ∷ [] → e.item ≡ i → e ≡ entry_at items e.item
its_entry items i b e here sums numbered =
    let same : e.sums ≡ (entry_at items i).sums = sums ∙ sym (λ k. sum_in 0 (here k) ∷ sum_in 1 (here k) ∷ sum_in 2 (here k) ∷ []) in
    let all : e ≡ entry_at items i = λ k. record { sums = same k; item = numbered k } in
    all ∙ ap (entry_at items) (sym numbered)

pub entered_some : (items : List (Option BoxValue)) (i : ℕ) (b : BoxValue) (e : Entry) (es fs : List Entry) (o : Option BoxValue) → i < length items → i < 2 ^ 20
    → o ≡ get_or items i o → o ≡ Some b → e.sums ≡ box_sum 0 b ∷ box_sum 1 b ∷ box_sum 2 b ∷ [] → e.item ≡ i → fs ≡ es ++ (e ∷ [])
    → IsEntered items i es → IsEntered items (i + 1) fs
entered_some items i b e es fs o small low at is sums numbered more has =
    let here : item_box items i ≡ Some b = get_or_default items i None o small ∙ sym at ∙ is in
    let active : is_some (item_box items i) ≡ true = ap is_some here in
    record {
      of = subst (AreOf items) (sym more) (All-push (λ x. x ≡ entry_at items x.item) es e has.of (its_entry items i b e here sums numbered));
      small = subst (All IsSmall) (sym more) (All-push IsSmall es e has.small (subst (λ n. n < 2 ^ 20) (sym numbered) low));
      each =
          ap items_in more ∙ items_in-append es (e ∷ []) ∙ (λ k. has.each k ++ (numbered k ∷ []))
          ∙ sym (actives_more items i ∙ ap (λ t. actives items i ++ if_active t i) active);
    }

none_by : (o : Option BoxValue) → ((b : BoxValue) → o ≡ Some b → ⊥) → o ≡ None
none_by None h = refl
none_by (Some b) h = absurd (h b refl)

pub entered_same : (items : List (Option BoxValue)) (i : ℕ) (es : List Entry) (o : Option BoxValue) → i < length items
    → o ≡ get_or items i o → ((b : BoxValue) → o ≡ Some b → ⊥) → IsEntered items i es → IsEntered items (i + 1) es
entered_same items i es o small at not has =
    let here : item_box items i ≡ None = get_or_default items i None o small ∙ sym at ∙ none_by o not in
    let active : is_some (item_box items i) ≡ false = ap is_some here in
    record {
      of = has.of;
      small = has.small;
      each = has.each ∙ sym (actives_more items i ∙ ap (λ t. actives items i ++ if_active t i) active ∙ append-nil (actives items i));
    }
