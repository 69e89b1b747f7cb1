-- Ranges that stand in order and apart: what a search finds among them, and what stays when one is
-- put in or taken out.
use Rattle.std.proofs.Common.{◌≡◌, ◌<◌, ◌≤◌, ℕ, Bool, true, false, List, [], ◌∷◌, refl, sym, ◌∙◌, ap, subst, arith, inl, inr, map}
use Rattle.std.specs.Prelude.{nat_eq, Some, None}
use Rattle.std.specs.List.{list_any, find}
use Rattle.std.specs.Map.{lookup}
use Rattle.std.specs.BTreeMap.{is_at}
use Rattle.std.specs.Option.{option_map}
use Rattle.std.specs.Ordering.{nat_cmp}
use Rattle.std.proofs.lemmas.Bool.{or_cases, cases_Bool, cases_lt, cases_eq, cases_order, cond-true, cond-false, eq-eqb, ne_eqb, eqb-true, false_from_ne_true, both_ways, false≢true}
use Rattle.std.proofs.lemmas.Bool.Decides.{nat_tests}
use Rattle.std.proofs.lemmas.Option.{same_Some, none-some}
use Rattle.ray_ranges.specs.declared.range.Range.{Range}
use Rattle.ray_ranges.specs.Meeting.{meets, meets_any}
use Rattle.ray_ranges.specs.Apart.{AreApart, begins_at, range_of}
use Rattle.ray_ranges.proofs.Shared.{AreMeeting, are_meeting, meets_from, same_Bool}
use Rattle.ray_ranges.proofs.Searches.{any-find}

-- what a search by the beginning finds lies where it has to
pub record IsFound (least from : ℕ) (range : Range) : Type 0 where
  pub begins : range.from ≡ from
  pub above : least ≤ range.from
  pub some : range.from < range.end

pub is_found :
    (least from : ℕ) (ranges : List Range) (range : Range) → AreApart least ranges
    → find (begins_at from) ranges ≡ Some range → IsFound least from range
is_found least from [] range apart h = absurd (none-some range h)
is_found least from (x ∷ xs) range (low, some, rest) h =
    elim (cases_Bool (begins_at from x)) [
      | inl here ↦
          (let same : x ≡ range = same_Some x range (sym (cond-true (begins_at from x) _ _ here) ∙ h) in
          let begins : x.from ≡ from = eqb-true x.from from here in
          subst (IsFound least from) same (record { begins = begins; above = low; some = some }))
      | inr other ↦
          (let found : IsFound x.end from range =
          is_found x.end from xs range rest (sym (cond-false (begins_at from x) _ _ other) ∙ h) in
          record { begins = found.begins; above = omega arith; some = found.some })
    ]

-- where a range isn't the first, a search by its beginning goes on
pub find-later :
    (x : Range) (xs : List Range) (from : ℕ) → (x.from ≡ from → ⊥)
    → find (begins_at from) (x ∷ xs) ≡ find (begins_at from) xs
find-later x xs from differs = cond-false (begins_at from x) _ _ (ne_eqb x.from from differs)

pub find-first :
    (x : Range) (xs : List Range) (from : ℕ) → x.from ≡ from → find (begins_at from) (x ∷ xs) ≡ Some x
find-first x xs from same = cond-true (begins_at from x) _ _ (eq-eqb x.from from same)

-- a range that passes a test, and that a search by its beginning finds
pub some_range :
    (test : Range → Bool) (least : ℕ) (ranges : List Range) → AreApart least ranges
    → list_any test ranges ≡ true
    → (range : Range) × (find (begins_at range.from) ranges ≡ Some range) × (test range ≡ true)
some_range test least [] apart h = absurd (false≢true h)
some_range test least (x ∷ xs) (low, some, rest) h =
    elim (or_cases (test x) (list_any test xs) h) [
      | inl here ↦ (x, find-first x xs x.from refl, here)
      | inr there ↦
          (let s = some_range test x.end xs rest there in
          let found : IsFound x.end s.0.from s.0 = is_found x.end s.0.from xs s.0 rest s.1 in
          (s.0, find-later x xs s.0.from (λ e. absurd (omega arith)) ∙ s.1, s.2))
    ]

-- of two ranges that are there, the one that begins below ends before the other begins
pub in_order :
    (least : ℕ) (ranges : List Range) (r s : Range) → AreApart least ranges
    → find (begins_at r.from) ranges ≡ Some r → find (begins_at s.from) ranges ≡ Some s
    → r.from < s.from → r.end ≤ s.from
in_order least [] r s apart h g l = absurd (none-some r h)
in_order least (x ∷ xs) r s (low, some, rest) h g l =
    elim (cases_eq x.from r.from) [
      | inl same ↦
          (let is : x ≡ r = same_Some x r (sym (find-first x xs r.from same) ∙ h) in
          let later : find (begins_at s.from) xs ≡ Some s =
          sym (find-later x xs s.from (λ e. absurd (omega arith))) ∙ g in
          let found : IsFound x.end s.from s = is_found x.end s.from xs s rest later in
          subst (λ (y : Range). y.end ≤ s.from) is found.above)
      | inr differs ↦
          (let here : find (begins_at r.from) xs ≡ Some r = sym (find-later x xs r.from differs) ∙ h in
          let found : IsFound x.end r.from r = is_found x.end r.from xs r rest here in
          let later : find (begins_at s.from) xs ≡ Some s =
          sym (find-later x xs s.from (λ e. absurd (omega arith))) ∙ g in
          in_order x.end xs r s rest here later l)
    ]

-- nothing begins below the end of a range, so it meets nothing
pub meets_nothing :
    (ranges : List Range) (range : Range) → AreApart 0 ranges
    → ((k : ℕ) → k < range.end → find (begins_at k) ranges ≡ None) → meets_any ranges range ≡ false
meets_nothing ranges range apart none =
    false_from_ne_true (meets_any ranges range) (λ h.
    let s = some_range (meets range) 0 ranges apart h in
    let m : AreMeeting range s.0 = are_meeting range s.0 s.2 in
    none-some s.0 (sym (none s.0.from m.second) ∙ s.1))

-- a range meets a range of the set exactly where it meets the last that begins below its end
pub meets_last :
    (ranges : List Range) (range last : Range) → AreApart 0 ranges
    → find (begins_at last.from) ranges ≡ Some last → last.from < range.end
    → ((k : ℕ) → k < range.end → last.from < k → find (begins_at k) ranges ≡ None)
    → meets_any ranges range ≡ meets range last
meets_last ranges range last apart found below none =
    same_Bool (meets_any ranges range) (meets range last)
    (λ h.
    let s = some_range (meets range) 0 ranges apart h in
    let m : AreMeeting range s.0 = are_meeting range s.0 s.2 in
    elim (cases_order s.0.from last.from) [
      | inl same ↦
          (let is : s.0 ≡ last =
          same_Some s.0 last (sym s.1 ∙ (ap (λ k. find (begins_at k) ranges) same ∙ found)) in
          subst (λ r. meets range r ≡ true) is s.2)
      | inr (inl less) ↦
          (let before : s.0.end ≤ last.from = in_order 0 ranges s.0 last apart s.1 found less in
          let f : IsFound 0 last.from last = is_found 0 last.from ranges last apart found in
          meets_from range last (record {
            first = omega arith;
            second = below;
            some = m.some;
            other = f.some;
          }))
      | inr (inr more) ↦ absurd (none-some s.0 (sym (none s.0.from m.second more) ∙ s.1))
    ])
    (λ h. any-find (begins_at last.from) (meets range) ranges last found h)

-- a search by the key of an entry is a search by the beginning of a range
pub at_key : (key other : ℕ) → is_at (nat_cmp key) other ≡ nat_eq other key
at_key key other = grind (arith, nat_tests)

pub find-entries :
    (from : ℕ) (entries : List (ℕ × ℕ))
    → find (begins_at from) (map range_of entries)
    ≡ option_map (λ end. range_of (from, end)) (lookup (is_at (nat_cmp from)) entries)
find-entries from [] = refl
find-entries from (e ∷ es) =
    elim (cases_eq e.0 from) [
      | inl same ↦
          find-first (range_of e) (map range_of es) from same
          ∙ (ap (λ k. Some (range_of (k, e.1))) same
          ∙ sym (ap (option_map (λ end. range_of (from, end)))
          (cond-true (is_at (nat_cmp from) e.0) (Some e.1) (lookup (is_at (nat_cmp from)) es)
          (at_key from e.0 ∙ eq-eqb e.0 from same))))
      | inr differs ↦
          find-later (range_of e) (map range_of es) from differs
          ∙ (find-entries from es
          ∙ sym (ap (option_map (λ end. range_of (from, end)))
          (cond-false (is_at (nat_cmp from) e.0) (Some e.1) (lookup (is_at (nat_cmp from)) es)
          (at_key from e.0 ∙ ne_eqb e.0 from differs))))
    ]

-- of two ranges that don't meet, the one that begins below ends before the other begins
pub ends_before :
    (a b : Range) → meets a b ≡ false → a.from < a.end → b.from < b.end
    → (a.from < b.from → a.end ≤ b.from) × (b.from < a.from → b.end ≤ a.from) × (a.from ≡ b.from → ⊥)
ends_before a b h some other = (
  λ l. elim (cases_lt b.from a.end) [
    | inl g ↦ absurd (both_ways (meets a b) h (meets_from a b (record { first = omega arith; second = g; some = some; other = other })))
    | inr g ↦ g
  ],
  λ l. elim (cases_lt a.from b.end) [
    | inl g ↦ absurd (both_ways (meets a b) h (meets_from a b (record { first = g; second = omega arith; some = some; other = other })))
    | inr g ↦ g
  ],
  λ e. both_ways (meets a b) h (meets_from a b (record { first = omega arith; second = omega arith; some = some; other = other })),
)
