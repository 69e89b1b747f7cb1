-- What stays true of ranges in order when one is put in or taken out.
use Rattle.std.proofs.Common.{◌≡◌, ◌<◌, ◌≤◌, ℕ, suc, Bool, true, false, List, [], ◌∷◌, refl, sym, ◌∙◌, ap, subst, arith, inl, inr, ◌||◌, ◌&&◌, not, map, length}
use Rattle.std.specs.Prelude.{Some, None}
use Rattle.std.specs.List.{list_any, find}
use Rattle.std.specs.Map.{remove_entry}
use Rattle.std.specs.BTreeMap.{is_at, insert_entry}
use Rattle.std.specs.declared.cmp.Ordering.{Ordering}
use Rattle.std.specs.declared.cmp.Ordering.TheVariants.{Less, Equal, Greater}
use Rattle.std.specs.Ordering.{nat_cmp, MatchOrdering, match_ordering}
use Rattle.std.proofs.lemmas.Cmp.{ranked}
use Rattle.std.proofs.lemmas.Bool.{or_parts, cases_eq, cond-true, cond-false, eq-eqb, ne_eqb, false_from_ne_true}
use Rattle.std.proofs.lemmas.Option.{same_Some, none-some}
use Rattle.ray_ranges.specs.declared.range.Range.{Range}
use Rattle.ray_ranges.specs.Meeting.{has, meets, meets_any, covers}
use Rattle.ray_ranges.specs.Apart.{AreApart, HaveTheSame, begins_at, without, range_of}
use Rattle.ray_ranges.proofs.Shared.{IsWithin, is_within}
use Rattle.ray_ranges.proofs.Searches.{any-find}
use Rattle.ray_ranges.proofs.Ordered.{IsFound, is_found, find-first, find-later, some_range, at_key, ends_before}

-- the entries of a map with one more range
abbrev pub with_range : List (ℕ × ℕ) → Range → List (ℕ × ℕ)
with_range entries range = insert_entry nat_cmp entries range.from range.end

-- a range that meets none of those that stand apart stands apart from them
abbrev StaysApart : Ordering → ℕ → (ℕ × ℕ) → List (ℕ × ℕ) → Range → Type 0
StaysApart order least e es r =
    AreApart least (map range_of (match_ordering order ((r.from, r.end) ∷ e ∷ es) ((e.0, r.end) ∷ es) (e ∷ with_range es r)))

apart_by :
    (order : Ordering) (least : ℕ) (e : ℕ × ℕ) (es : List (ℕ × ℕ)) (r : Range)
    → MatchOrdering order (r.from < e.0) (r.from ≡ e.0) (e.0 < r.from)
    → AreApart least (map range_of (e ∷ es)) → least ≤ r.from → r.from < r.end
    → meets r (range_of e) ≡ false
    → (e.1 ≤ r.from → AreApart e.1 (map range_of (with_range es r)))
    → StaysApart order least e es r
apart_by Less least e es r l (low, more, rest) above some free next =
    (above, some, ((ends_before r (range_of e) free some more).0 l, more, rest))
apart_by Equal least e es r same (low, more, rest) above some free next =
    absurd ((ends_before r (range_of e) free some more).2 same)
apart_by Greater least e es r g (low, more, rest) above some free next =
    (low, more, next ((ends_before r (range_of e) free some more).1 g))

pub with_range_apart :
    (least : ℕ) (entries : List (ℕ × ℕ)) (r : Range)
    → AreApart least (map range_of entries) → least ≤ r.from → r.from < r.end
    → meets_any (map range_of entries) r ≡ false
    → AreApart least (map range_of (with_range entries r))
with_range_apart least [] r apart above some free = (above, some, tt)
with_range_apart least (e ∷ es) r apart above some free =
    let parts = or_parts (meets r (range_of e)) (meets_any (map range_of es) r) free in
    apart_by (nat_cmp r.from e.0) least e es r (ranked r.from e.0 (nat_cmp r.from e.0) refl) apart above some parts.0
    (λ after. with_range_apart e.1 es r apart.2 after some parts.1)

-- and then a test finds a range among these exactly where it is the new one or finds one of the old
any_by :
    (test : Range → Bool) (order : Ordering) (e : ℕ × ℕ) (es : List (ℕ × ℕ)) (r : Range)
    → MatchOrdering order (r.from < e.0) (r.from ≡ e.0) (e.0 < r.from)
    → (r.from ≡ e.0 → ⊥)
    → list_any test (map range_of (with_range es r)) ≡ (test r || list_any test (map range_of es))
    → list_any test (map range_of (match_ordering order ((r.from, r.end) ∷ e ∷ es) ((e.0, r.end) ∷ es) (e ∷ with_range es r)))
    ≡ (test r || (test (range_of e) || list_any test (map range_of es)))
any_by test Less e es r l differs next = refl
any_by test Equal e es r same differs next = absurd (differs same)
any_by test Greater e es r g differs next =
    ap (λ b. test (range_of e) || b) next
    ∙ turned (test (range_of e)) (test r) (list_any test (map range_of es))
  where
    turned : (a b c : Bool) → (a || (b || c)) ≡ (b || (a || c))
    turned true true c = refl
    turned true false c = refl
    turned false true c = refl
    turned false false c = refl

pub with_range_same :
    (least : ℕ) (entries : List (ℕ × ℕ)) (r : Range)
    → AreApart least (map range_of entries) → r.from < r.end
    → meets_any (map range_of entries) r ≡ false
    → HaveTheSame (map range_of (with_range entries r)) (r ∷ map range_of entries)
with_range_same least [] r apart some free test = refl
with_range_same least (e ∷ es) r apart some free test =
    let parts = or_parts (meets r (range_of e)) (meets_any (map range_of es) r) free in
    any_by test (nat_cmp r.from e.0) e es r (ranked r.from e.0 (nat_cmp r.from e.0) refl)
    (ends_before r (range_of e) parts.0 some apart.1).2
    (with_range_same e.1 es r apart.2 some parts.1 test)

-- ranges that stand apart from a number on do so from a lesser one on
pub apart_from_less :
    (less least : ℕ) (ranges : List Range) → less ≤ least → AreApart least ranges → AreApart less ranges
apart_from_less less least [] l apart = tt
apart_from_less less least (x ∷ xs) l (low, some, rest) =
    (let b : less ≤ x.from = omega arith in b, some, rest)

-- no range begins below the least number
pub without_none :
    (from least : ℕ) (ranges : List Range) → from < least → AreApart least ranges
    → without from ranges ≡ ranges
without_none from least [] l apart = refl
without_none from least (x ∷ xs) l (low, some, rest) =
    cond-true (not (begins_at from x)) _ _ (ap not (ne_eqb x.from from (λ e. absurd (omega arith))))
    ∙ ap (λ ys. x ∷ ys) (without_none from x.end xs (omega arith) rest)

-- a range at the front goes, and any other stays
pub without-first :
    (from least : ℕ) (x : Range) (xs : List Range) → AreApart least (x ∷ xs) → x.from ≡ from
    → without from (x ∷ xs) ≡ xs
without-first from least x xs (low, some, rest) same =
    cond-false (not (begins_at from x)) _ _ (ap not (eq-eqb x.from from same))
    ∙ without_none from x.end xs (omega arith) rest

pub without-later :
    (from : ℕ) (x : Range) (xs : List Range) → (x.from ≡ from → ⊥)
    → without from (x ∷ xs) ≡ x ∷ without from xs
without-later from x xs differs = cond-true (not (begins_at from x)) _ _ (ap not (ne_eqb x.from from differs))

pub without_apart :
    (from least : ℕ) (ranges : List Range) → AreApart least ranges → AreApart least (without from ranges)
without_apart from least [] apart = tt
without_apart from least (x ∷ xs) (low, some, rest) =
    elim (cases_eq x.from from) [
      | inl same ↦
          subst (AreApart least) (sym (without-first from least x xs (low, some, rest) same))
          (apart_from_less least x.end xs (omega arith) rest)
      | inr differs ↦
          subst (AreApart least) (sym (without-later from x xs differs))
          (low, some, without_apart from x.end xs rest)
    ]

pub without-entries :
    (from least : ℕ) (entries : List (ℕ × ℕ)) → AreApart least (map range_of entries)
    → map range_of (remove_entry (is_at (nat_cmp from)) entries) ≡ without from (map range_of entries)
without-entries from least [] apart = refl
without-entries from least (e ∷ es) apart =
    elim (cases_eq e.0 from) [
      | inl same ↦
          ap (map range_of)
          (cond-true (is_at (nat_cmp from) e.0) es (e ∷ remove_entry (is_at (nat_cmp from)) es)
          (at_key from e.0 ∙ eq-eqb e.0 from same))
          ∙ sym (without-first from least (range_of e) (map range_of es) apart same)
      | inr differs ↦
          ap (map range_of)
          (cond-false (is_at (nat_cmp from) e.0) es (e ∷ remove_entry (is_at (nat_cmp from)) es)
          (at_key from e.0 ∙ ne_eqb e.0 from differs))
          ∙ (ap (λ rs. range_of e ∷ rs) (without-entries from e.1 es apart.2)
          ∙ sym (without-later from (range_of e) (map range_of es) differs))
    ]

pub without_missing :
    (from : ℕ) (ranges : List Range) → find (begins_at from) ranges ≡ None → without from ranges ≡ ranges
without_missing from [] h = refl
without_missing from (x ∷ xs) h =
    elim (cases_eq x.from from) [
      | inl same ↦ absurd (none-some x (sym h ∙ find-first x xs from same))
      | inr differs ↦
          without-later from x xs differs
          ∙ ap (λ ys. x ∷ ys) (without_missing from xs (sym (find-later x xs from differs) ∙ h))
    ]

-- no number below the least is in a range
pub covers_none :
    (n least : ℕ) (ranges : List Range) → n < least → AreApart least ranges → covers ranges n ≡ false
covers_none n least ranges l apart =
    false_from_ne_true (covers ranges n) (λ h.
    let s = some_range (has n) least ranges apart h in
    let f : IsFound least s.0.from s.0 = is_found least s.0.from ranges s.0 apart s.1 in
    let w : IsWithin n s.0 = is_within n s.0 s.2 in
    absurd (omega arith))

-- the numbers that stay are those that weren't in the range
taken_first : (a c : Bool) → (a ≡ true → c ≡ false) → c ≡ ((a || c) && not a)
taken_first true c h = h refl
taken_first false true h = refl
taken_first false false h = refl

taken_later : (a b c d : Bool) → (a ≡ true → d ≡ false) → b ≡ (c && not d) → (a || b) ≡ ((a || c) && not d)
taken_later true b c d h e = sym (ap not (h refl))
taken_later false b c d h e = e

pub without_numbers :
    (from least : ℕ) (ranges : List Range) (r : Range) → AreApart least ranges
    → find (begins_at from) ranges ≡ Some r
    → (n : ℕ) → covers (without from ranges) n ≡ (covers ranges n && not (has n r))
without_numbers from least [] r apart h n = absurd (none-some r h)
without_numbers from least (x ∷ xs) r (low, some, rest) h n =
    elim (cases_eq x.from from) [
      | inl same ↦
          (let is : x ≡ r = same_Some x r (sym (find-first x xs from same) ∙ h) in
          ap (λ rs. covers rs n) (without-first from least x xs (low, some, rest) same)
          ∙ subst (λ (y : Range). covers xs n ≡ ((has n x || covers xs n) && not (has n y))) is
          (taken_first (has n x) (covers xs n) (λ g.
          let w : IsWithin n x = is_within n x g in
          covers_none n x.end xs w.below rest)))
      | inr differs ↦
          (let later : find (begins_at from) xs ≡ Some r = sym (find-later x xs from differs) ∙ h in
          let f : IsFound x.end from r = is_found x.end from xs r rest later in
          ap (λ rs. covers rs n) (without-later from x xs differs)
          ∙ taken_later (has n x) (covers (without from xs) n) (covers xs n) (has n r)
          (λ g.
          let w : IsWithin n x = is_within n x g in
          false_from_ne_true (has n r) (λ k.
          let v : IsWithin n r = is_within n r k in
          absurd (omega arith)))
          (without_numbers from x.end xs r rest later n))
    ]

-- one range fewer stays
pub without_fewer :
    (from least : ℕ) (ranges : List Range) (r : Range) → AreApart least ranges
    → find (begins_at from) ranges ≡ Some r → length (without from ranges) < length ranges
without_fewer from least [] r apart h = absurd (none-some r h)
without_fewer from least (x ∷ xs) r (low, some, rest) h =
    elim (cases_eq x.from from) [
      | inl same ↦
          (let e : length (without from (x ∷ xs)) ≡ length xs =
          ap length (without-first from least x xs (low, some, rest) same) in
          omega arith)
      | inr differs ↦
          (let e : length (without from (x ∷ xs)) ≡ suc (length (without from xs)) =
          ap length (without-later from x xs differs) in
          let next : length (without from xs) < length xs =
          without_fewer from x.end xs r rest (sym (find-later x xs from differs) ∙ h) in
          omega arith)
    ]

-- and with the range that was taken out these are all numbers
kept_or_taken : (old new a : Bool) → new ≡ (old && not a) → (a ≡ true → old ≡ true) → old ≡ (a || new)
kept_or_taken old new true e h = h refl
kept_or_taken true new false e h = sym e
kept_or_taken false new false e h = sym e

pub with_taken :
    (from : ℕ) (old new : List Range) (r : Range) → find (begins_at from) old ≡ Some r
    → ((n : ℕ) → covers new n ≡ (covers old n && not (has n r)))
    → (n : ℕ) → covers old n ≡ (has n r || covers new n)
with_taken from old new r h numbers n =
    kept_or_taken (covers old n) (covers new n) (has n r) (numbers n) (λ g. any-find (begins_at from) (has n) old r h g)
