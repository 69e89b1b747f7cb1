-- Entries of the active items, one after the other, and in another order.
use Rattle.std.proofs.Common.{◌≡◌, ◌∙◌, ◌+◌, ◌*◌, ◌/◌, ◌^◌, ◌<◌, ◌≤◌, ◌⊎◌, inl, inr, ◌++◌, ℕ, zero, suc, true, false, Bool, cond, Option, Some, None, List, [], ◌∷◌, length, get_or, refl, sym, ap, ap₂, map, subst, arith, zero-add}
use Rattle.std.specs.Prelude.{is_some, ◌==◌, nat_lt, if◌then◌else◌}
use Rattle.std.specs.List.{All, filter, range_with_len}
use Rattle.std.specs.Ordering.{nat_cmp, is_lt}
use Rattle.std.specs.List.Sorted.{IsPermutation, IsSorted}
use Rattle.std.proofs.lemmas.Bool.{lt-ltb}
use Rattle.std.proofs.lemmas.Bool.Decides.{nat_tests}
use Rattle.std.proofs.lemmas.List.FromFn.{filter_of_map_range_with_len_more}
use Rattle.std.proofs.lemmas.Cmp.{nat_cmp_total}
use Rattle.std.proofs.lemmas.Map.Keys.{ge_from_not_lt}
use Rattle.std.proofs.lemmas.List.MinMax.{ranks_by}
use Rattle.std.proofs.lemmas.List.{get_or_past, map-append, length-map}
use Rattle.std.proofs.lemmas.List.Elements.{All-nil, All-cons, All-append}
use Rattle.std.proofs.lemmas.List.Sums.{sum_by-append, count_by-le-length}
use Rattle.std.proofs.lemmas.List.Sorted.{IsPermutation-map, sum_by-IsPermutation, sorted_far, All-permutation}
use Rattle.ray_geom.specs.Boxes.{BoxValue}
use Rattle.ray_tree.specs.Trees.{active, times, item_box}
use Rattle.ray_tree.proofs.Counting.{either, one, has_items}
use Rattle.ray_morton.specs.Keys.{key_of, middle_of}
use Rattle.ray_morton.proofs.Spread.{interleaved_small}
use Rattle.ray_morton.specs.KeyOrder.{key_in, key_at}
use Rattle.ray_morton.specs.Entries.{entries_below, entry_in, mark_in, mark_at, item_part, item_parts, HasEach, Rises, IsInOrder}

pub below_none : (items : List (Option BoxValue)) → entries_below items 0 ≡ []
unfolding entries_below
below_none items = refl

below_suc : (items : List (Option BoxValue)) (n : ℕ) → entries_below items (suc n) ≡ entries_below items n ++ entry_in (item_box items n) n
unfolding entries_below
below_suc items n = refl

below_more : (items : List (Option BoxValue)) (n : ℕ) → entries_below items (n + 1) ≡ entries_below items n ++ entry_in (item_box items n) n
below_more items n = let e : n + 1 ≡ suc n = omega arith in ap (entries_below items) e ∙ below_suc items n

-- one item more, with an entry or without
abbrev IsEntry : ℕ → Bool
IsEntry e = nat_lt e (2 ^ 80)

entered_or_not : (n : ℕ) (o : Option BoxValue) → n < 2 ^ 20 → cond (IsEntry (mark_in o n)) (mark_in o n ∷ []) [] ≡ entry_in o n
entered_or_not n None small = refl
entered_or_not n (Some box) small =
    let key = interleaved_small (middle_of box.lo.x box.hi.x) (middle_of box.lo.y box.hi.y) (middle_of box.lo.z box.hi.z) in
    let few : key_of box * 2 ^ 20 + n < 2 ^ 80 = omega (arith, key, small) in
    let is : IsEntry (key_of box * 2 ^ 20 + n) ≡ true = lt-ltb _ _ few in
    ap (λ b. cond b ((key_of box * 2 ^ 20 + n) ∷ []) []) is

-- the entries are those marks that are one
pub entries_are : (items : List (Option BoxValue)) (n : ℕ) → n ≤ 2 ^ 20 → filter IsEntry (map (mark_at items) (range_with_len 0 n)) ≡ entries_below items n
entries_are items zero le = sym (below_none items)
entries_are items (suc n) le =
    let e : n + 1 ≡ suc n = omega arith in
    ap (λ k. filter IsEntry (map (mark_at items) (range_with_len 0 k))) (sym e)
    ∙ filter_of_map_range_with_len_more IsEntry (mark_at items) 0 n n (omega arith)
    ∙ ap₂ (λ l m. l ++ m) (entries_are items n (omega arith)) (entered_or_not n (item_box items n) (omega arith)) ∙ sym (below_more items n)
    ∙ ap (entries_below items) e

-- each item below n has its entry
abbrev firsts : List (Option BoxValue) → ℕ → ℕ → ℕ
firsts items n p = if nat_lt p n then active items p else 0

before_it : (items : List (Option BoxValue)) (n p : ℕ) → p < n → firsts items n p ≡ active items p
before_it items n p lt = let e : nat_lt p n ≡ true = grind (arith, nat_tests) in ap (λ b. if b then active items p else 0) e

after_it : (items : List (Option BoxValue)) (n p : ℕ) → n ≤ p → firsts items n p ≡ 0
after_it items n p le = let e : nat_lt p n ≡ false = grind (arith, nat_tests) in ap (λ b. if b then active items p else 0) e

apart : (p n : ℕ) → (p < n) ⊎ (n < p) → one p n ≡ 0
apart p n (inl a) = grind (arith, nat_tests)
apart p n (inr b) = grind (arith, nat_tests)

itself : (p : ℕ) → one p p ≡ 1
itself p = grind (arith, nat_tests)

-- how often a number stands in the entry of an item
entered : (p n : ℕ) (o : Option BoxValue) → n < 2 ^ 20 → times p (item_parts (entry_in o n)) ≡ cond (is_some o) (one p n) 0
entered p n None small = refl
entered p n (Some box) small =
    let number : item_part (key_of box * 2 ^ 20 + n) ≡ n = omega (arith, small) in
    ap (λ q. times p (q ∷ [])) number ∙ zero-add (one p n)

joined : (p n a : ℕ) (b : Bool) → cond b (one p n) 0 ≡ a → (p ≡ n → a ≡ cond b 1 0) × ((p < n) ⊎ (n < p) → a ≡ 0)
joined p n a true e = (λ same. sym e ∙ subst (λ q. one p q ≡ 1) same (itself p), λ not. sym e ∙ apart p n not)
joined p n a false e = (λ same. sym e, λ not. sym e)

times-first : (items : List (Option BoxValue)) (n p : ℕ) → n ≤ 2 ^ 20 → times p (item_parts (entries_below items n)) ≡ firsts items n p
times-first items zero p le = ap (λ l. times p (item_parts l)) (below_none items) ∙ sym (after_it items 0 p (omega arith))
times-first items (suc n) p le =
    let es = entries_below items n in
    let last = entry_in (item_box items n) n in
    let sum : times p (item_parts (entries_below items (suc n))) ≡ times p (item_parts es) + times p (item_parts last) =
    ap (λ l. times p (item_parts l)) (below_suc items n) ∙ ap (times p) (map-append item_part es last) ∙ sum_by-append (λ q. cond (q == p) 1 0) (item_parts es) (item_parts last) in
    let before = times-first items n p (omega arith) in
    let here = joined p n (times p (item_parts last)) (is_some (item_box items n)) (sym (entered p n (item_box items n) (omega arith))) in
    elim (either p n) [
      | inl a ↦ omega (arith, sum, before, here.1 (inl a), before_it items n p a, before_it items (suc n) p (omega arith))
      | inr b ↦ elim (either n p) [
        | inl c ↦ omega (arith, sum, before, here.1 (inr c), after_it items n p b, after_it items (suc n) p (omega arith))
        | inr d ↦ (let same : p ≡ n = omega arith in
            omega (arith, sum, before, here.0 same, after_it items n p b, before_it items (suc n) p (omega arith), ap (active items) same))
      ]
    ]

-- an entry has the key of its item
abbrev IsKeyed : List (Option BoxValue) → ℕ → Type 0
IsKeyed items e = e / 2 ^ 20 ≡ key_at items (item_part e)

keyed_entry : (items : List (Option BoxValue)) (n : ℕ) (o : Option BoxValue) → n < 2 ^ 20 → item_box items n ≡ o → All (IsKeyed items) (entry_in o n)
keyed_entry items n None small is = All-nil (IsKeyed items)
keyed_entry items n (Some box) small is =
    let e = key_of box * 2 ^ 20 + n in
    let number : item_part e ≡ n = omega (arith, small) in
    let key : e / 2 ^ 20 ≡ key_of box = omega (arith, small) in
    All-cons (IsKeyed items) e [] (key ∙ ap key_in (sym is) ∙ ap (key_at items) (sym number)) (All-nil (IsKeyed items))

keyed_below : (items : List (Option BoxValue)) (n : ℕ) → n ≤ 2 ^ 20 → All (IsKeyed items) (entries_below items n)
keyed_below items zero le = subst (All (IsKeyed items)) (sym (below_none items)) (All-nil (IsKeyed items))
keyed_below items (suc n) le =
    subst (All (IsKeyed items)) (sym (below_suc items n))
    (All-append (IsKeyed items) (entries_below items n) (entry_in (item_box items n) n) (keyed_below items n (omega arith))
    (keyed_entry items n (item_box items n) (omega arith) refl))

past : (items : List (Option BoxValue)) (p : ℕ) → length items ≤ p → active items p ≡ 0
past items p le = ap (λ o. cond (is_some o) 1 0) (get_or_past items p None le)

all_entered : (items : List (Option BoxValue)) → length items ≤ 2 ^ 20 → HasEach items (entries_below items (length items))
all_entered items few = record {
  once = λ p. times-first items (length items) p few ∙ elim (either p (length items)) [
    | inl a ↦ before_it items (length items) p a
    | inr b ↦ omega (arith, after_it items (length items) p b, past items p b)
  ];
  keyed = keyed_below items (length items) few;
}

-- and in rising order
pub sorted_rises : (xs : List ℕ) → IsSorted nat_cmp xs → Rises xs
sorted_rises xs up = record {
  each = λ i j d before small.
      ge_from_not_lt (get_or xs j d) (get_or xs i d) (sorted_far (λ x y. is_lt (nat_cmp x y)) (ranks_by nat_cmp_total (λ x. x)) xs up i j d before small);
}

-- as long as an order of them rises
pub put_in_order : (items : List (Option BoxValue)) (es fs : List ℕ) → length items ≤ 2 ^ 20 → es ≡ entries_below items (length items)
    → IsPermutation es fs → Rises fs → IsInOrder items fs
put_in_order items es fs few is moved up =
    let has = subst (HasEach items) (sym is) (all_entered items few) in
    record {
      has = record {
        once = λ p. sum_by-IsPermutation (λ q. cond (q == p) 1 0) (item_parts es) (item_parts fs) (IsPermutation-map item_part es fs moved) ∙ has.once p;
        keyed = All-permutation (IsKeyed items) es fs moved has.keyed;
      };
      rising = up;
    }

-- there are at most as many as items
pub few_below : (items : List (Option BoxValue)) (es : List ℕ) → length items ≤ 2 ^ 20 → es ≡ entries_below items (length items) → length es ≤ length items
few_below items es few is =
    let has = subst (HasEach items) (sym is) (all_entered items few) in
    omega (arith, few, (has_items (item_parts es) items has.once).many, count_by-le-length is_some items, length-map es item_part)
