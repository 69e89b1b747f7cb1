-- Ranges that ascend in some order don't meet one another.
use Rattle.std.proofs.Common.{◌≡◌, ◌<◌, ◌≤◌, ℕ, ◌+◌, zero, suc, Bool, true, false, List, [], ◌∷◌, refl, sym, ◌∙◌, arith, inl, inr, length, take, map, ◌&&◌, get_or}
use Rattle.std.specs.Prelude.{nat_lt, nat_le, if◌then◌else◌, None}
use Rattle.std.specs.List.{sum_by}
use Rattle.std.specs.List.Sorted.{IsPermutation}
use Rattle.std.proofs.lemmas.Bool.{cases_Bool, and_parts, leb-true, ltb-true, ltb-false, cond-true, cond-false, or_cases, or_from, false_from_ne_true, false≢true}
use Rattle.std.proofs.lemmas.List.Sorted.{sum_by-IsPermutation}
use Rattle.std.proofs.lemmas.List.Sums.{sum_by-cons}
use Rattle.std.proofs.lemmas.List.Folds.{list_any-append}
use Rattle.ray_ranges.specs.declared.range.Range.{Range}
use Rattle.ray_ranges.specs.declared.sweep.Swept.{Swept}
use Rattle.ray_ranges.specs.Meeting.{has, meets, meets_any, covers}
use Rattle.ray_ranges.specs.First.{range_at, meets_before, first_meeting, first_meeting_any}
use Rattle.ray_ranges.specs.Sweep.{own, other, swept, greater, ascend_from, count_at, AreFree}
use Rattle.ray_ranges.proofs.Shared.{IsWithin, is_within, covers-meets_any}
use Rattle.ray_ranges.proofs.Firsts.{least_number-none, position-none}

-- ---- counts

-- whether a range has a number, as 1 or 0
abbrev one : ℕ → Range → ℕ
one n range = if has n range then 1 else 0

-- the same, of the own ranges alone and of the others alone
abbrev one_own : ℕ → Swept → ℕ
one_own n s = if s.is_other then 0 else one n s.range

abbrev one_other : ℕ → Swept → ℕ
one_other n s = if s.is_other then one n s.range else 0

abbrev own_at : ℕ → List Swept → ℕ
own_at n all = sum_by (one_own n) all

abbrev others_at : ℕ → List Swept → ℕ
others_at n all = sum_by (one_other n) all

one-empty : (n : ℕ) (range : Range) → nat_lt range.from range.end ≡ false → one n range ≡ 0
one-empty n range h =
    cond-false (has n range) 1 0 (false_from_ne_true (has n range) (λ g.
    let w : IsWithin n range = is_within n range g in
    none w.below w.least))
  where
    none : n < range.end → range.from ≤ n → ⊥
    none b l = let g = ltb-false range.from range.end h in absurd (omega arith)

-- what one range of a sweep adds
pub record Adds (n : ℕ) (s : Swept) (rest : List Swept) : Type 0 where
  pub own : own_at n (s ∷ rest) ≡ one_own n s + own_at n rest
  pub others : others_at n (s ∷ rest) ≡ one_other n s + others_at n rest

adds : (n : ℕ) (s : Swept) (rest : List Swept) → Adds n s rest
adds n s rest = record { own = sum_by-cons (one_own n) s rest; others = sum_by-cons (one_other n) s rest }

greater_least : (a b : ℕ) → (a ≤ greater a b) × (b ≤ greater a b)
greater_least a b =
    elim (cases_Bool (nat_lt a b)) [
      | inl h ↦
          (let e : greater a b ≡ b = cond-true (nat_lt a b) b a h in
          let l : a < b = ltb-true a b h in
          (let x : a ≤ greater a b = omega arith in x, let y : b ≤ greater a b = omega arith in y))
      | inr h ↦
          (let e : greater a b ≡ a = cond-false (nat_lt a b) b a h in
          let l : b ≤ a = ltb-false a b h in
          (let x : a ≤ greater a b = omega arith in x, let y : b ≤ greater a b = omega arith in y))
    ]

-- ---- the sweep

-- what a sweep from two ends on shows of a number
pub record IsClear (ends other_ends n : ℕ) (all : List Swept) : Type 0 where
  pub below : n < ends → (own_at n all ≡ 0) × (others_at n all ≡ 0)
  pub below_others : n < other_ends → own_at n all ≡ 0
  pub once : own_at n all ≤ 1
  pub apart : 1 ≤ own_at n all → others_at n all ≡ 0

-- one that adds nothing
clear_past :
    (ends other_ends n : ℕ) (s : Swept) (rest : List Swept) → one_own n s ≡ 0 → one_other n s ≡ 0
    → IsClear ends other_ends n rest → IsClear ends other_ends n (s ∷ rest)
clear_past ends other_ends n s rest e f clear =
    let a : Adds n s rest = adds n s rest in
    let x : own_at n (s ∷ rest) ≡ one_own n s + own_at n rest = a.own in
    let y : others_at n (s ∷ rest) ≡ one_other n s + others_at n rest = a.others in
    let x' : own_at n (s ∷ rest) ≡ own_at n rest = omega arith in
    let y' : others_at n (s ∷ rest) ≡ others_at n rest = omega arith in
    record {
      below = λ l. (x' ∙ (clear.below l).0, y' ∙ (clear.below l).1);
      below_others = λ l. x' ∙ clear.below_others l;
      once = let o : own_at n rest ≤ 1 = clear.once in omega arith;
      apart = λ l. y' ∙ clear.apart (omega arith);
    }

-- the sweep went on with greater ends
clear_less :
    (ends other_ends more others_more n : ℕ) (all : List Swept) → ends ≤ more → other_ends ≤ others_more
    → IsClear more others_more n all → IsClear ends other_ends n all
clear_less ends other_ends more others_more n all l k clear = record {
  below = λ m. clear.below (omega arith);
  below_others = λ m. clear.below_others (omega arith);
  once = clear.once;
  apart = clear.apart;
}

-- an own range that has the number
clear_own :
    (ends other_ends n : ℕ) (s : Swept) (rest : List Swept) → ends ≤ n → other_ends ≤ n
    → one_own n s ≡ 1 → one_other n s ≡ 0
    → (own_at n rest ≡ 0) × (others_at n rest ≡ 0) → IsClear ends other_ends n (s ∷ rest)
clear_own ends other_ends n s rest l k e f (z, w) =
    let a : Adds n s rest = adds n s rest in
    let x : own_at n (s ∷ rest) ≡ one_own n s + own_at n rest = a.own in
    let y : others_at n (s ∷ rest) ≡ one_other n s + others_at n rest = a.others in
    record {
      below = λ m. absurd (omega arith);
      below_others = λ m. absurd (omega arith);
      once = omega arith;
      apart = λ m. omega arith;
    }

-- an other range that has it
clear_other :
    (ends other_ends n : ℕ) (s : Swept) (rest : List Swept) → ends ≤ n → one_own n s ≡ 0
    → own_at n rest ≡ 0 → IsClear ends other_ends n (s ∷ rest)
clear_other ends other_ends n s rest l e z =
    let a : Adds n s rest = adds n s rest in
    let x : own_at n (s ∷ rest) ≡ one_own n s + own_at n rest = a.own in
    record {
      below = λ m. absurd (omega arith);
      below_others = λ m. omega arith;
      once = omega arith;
      apart = λ m. absurd (omega arith);
    }

-- one range of a sweep that isn't empty
clear_some :
    (ends other_ends n : ℕ) (range : Range) (is_other : Bool) (rest : List Swept)
    → ends ≤ range.from → range.from < range.end
    → (is_other ≡ true → IsClear ends (greater other_ends range.end) n rest)
    → (is_other ≡ false → (other_ends ≤ range.from) × IsClear range.end other_ends n rest)
    → IsClear ends other_ends n (record { range = range; is_other = is_other } ∷ rest)
clear_some ends other_ends n range true rest low some others own =
    let r : IsClear ends (greater other_ends range.end) n rest = others refl in
    let g = greater_least other_ends range.end in
    let g0 : other_ends ≤ greater other_ends range.end = g.0 in
    let g1 : range.end ≤ greater other_ends range.end = g.1 in
    elim (cases_Bool (has n range)) [
      | inl here ↦
          (let w : IsWithin n range = is_within n range here in
          let l : range.from ≤ n = w.least in
          let b : n < range.end = w.below in
          clear_other ends other_ends n (record { range = range; is_other = true }) rest (omega arith) refl
          (r.below_others (omega arith)))
      | inr none ↦
          clear_past ends other_ends n (record { range = range; is_other = true }) rest refl
          (cond-false (has n range) 1 0 none)
          (clear_less ends other_ends ends (greater other_ends range.end) n rest (omega arith) g.0 r)
    ]
clear_some ends other_ends n range false rest low some others own =
    let o = own refl in
    let up : other_ends ≤ range.from = o.0 in
    elim (cases_Bool (has n range)) [
      | inl here ↦
          (let w : IsWithin n range = is_within n range here in
          let l : range.from ≤ n = w.least in
          let b : n < range.end = w.below in
          clear_own ends other_ends n (record { range = range; is_other = false }) rest (omega arith) (omega arith)
          (cond-true (has n range) 1 0 here) refl (o.1.below b))
      | inr none ↦
          clear_past ends other_ends n (record { range = range; is_other = false }) rest
          (cond-false (has n range) 1 0 none) refl
          (clear_less ends other_ends range.end other_ends n rest (omega arith) (omega arith) o.1)
    ]

own-empty : (n : ℕ) (s : Swept) → nat_lt s.range.from s.range.end ≡ false → one_own n s ≡ 0
own-empty n s h = elim (cases_Bool s.is_other) [
  | inl o ↦ cond-true s.is_other 0 (one n s.range) o
  | inr o ↦ cond-false s.is_other 0 (one n s.range) o ∙ one-empty n s.range h
]

other-empty : (n : ℕ) (s : Swept) → nat_lt s.range.from s.range.end ≡ false → one_other n s ≡ 0
other-empty n s h = elim (cases_Bool s.is_other) [
  | inl o ↦ cond-true s.is_other (one n s.range) 0 o ∙ one-empty n s.range h
  | inr o ↦ cond-false s.is_other (one n s.range) 0 o
]

pub clear_each :
    (ends other_ends : ℕ) (all : List Swept) → ascend_from ends other_ends all ≡ true → (n : ℕ)
    → IsClear ends other_ends n all
clear_each ends other_ends [] h n = record {
  below = λ l. (refl, refl);
  below_others = λ l. refl;
  once = omega arith;
  apart = λ l. refl;
}
clear_each ends other_ends (s ∷ rest) h n =
    elim (cases_Bool (nat_lt s.range.from s.range.end)) [
      | inl some ↦
          (let parts = and_parts (nat_le ends s.range.from)
          (if s.is_other then ascend_from ends (greater other_ends s.range.end) rest
          else nat_le other_ends s.range.from && ascend_from s.range.end other_ends rest)
          (sym (cond-true (nat_lt s.range.from s.range.end) _ _ some) ∙ h) in
          clear_some ends other_ends n s.range s.is_other rest (leb-true ends s.range.from parts.0)
          (ltb-true s.range.from s.range.end some)
          (λ o. clear_each ends (greater other_ends s.range.end) rest (sym (cond-true s.is_other _ _ o) ∙ parts.1) n)
          (λ o.
          let more = and_parts (nat_le other_ends s.range.from) (ascend_from s.range.end other_ends rest)
          (sym (cond-false s.is_other _ _ o) ∙ parts.1) in
          (leb-true other_ends s.range.from more.0, clear_each s.range.end other_ends rest more.1 n)))
      | inr empty ↦
          clear_past ends other_ends n s rest (own-empty n s empty) (other-empty n s empty)
          (clear_each ends other_ends rest (sym (cond-false (nat_lt s.range.from s.range.end) _ _ empty) ∙ h) n)
    ]

-- ---- both lists

count-cons : (n : ℕ) (range : Range) (ranges : List Range) → count_at n (range ∷ ranges) ≡ one n range + count_at n ranges
count-cons n range ranges = sum_by-cons (one n) range ranges

own-others : (n : ℕ) (others : List Range) → own_at n (map other others) ≡ 0
own-others n [] = refl
own-others n (r ∷ rs) =
    let e : own_at n (other r ∷ map other rs) ≡ 0 + own_at n (map other rs) = sum_by-cons (one_own n) (other r) (map other rs) in
    let i : own_at n (map other rs) ≡ 0 = own-others n rs in
    omega arith

others-others : (n : ℕ) (others : List Range) → others_at n (map other others) ≡ count_at n others
others-others n [] = refl
others-others n (r ∷ rs) =
    let e : others_at n (other r ∷ map other rs) ≡ one n r + others_at n (map other rs) =
    sum_by-cons (one_other n) (other r) (map other rs) in
    let c : count_at n (r ∷ rs) ≡ one n r + count_at n rs = count-cons n r rs in
    let i : others_at n (map other rs) ≡ count_at n rs = others-others n rs in
    omega arith

own-swept : (n : ℕ) (ranges others : List Range) → own_at n (swept ranges others) ≡ count_at n ranges
own-swept n [] others = own-others n others
own-swept n (r ∷ rs) others =
    let e : own_at n (own r ∷ swept rs others) ≡ one n r + own_at n (swept rs others) =
    sum_by-cons (one_own n) (own r) (swept rs others) in
    let c : count_at n (r ∷ rs) ≡ one n r + count_at n rs = count-cons n r rs in
    let i : own_at n (swept rs others) ≡ count_at n rs = own-swept n rs others in
    omega arith

others-swept : (n : ℕ) (ranges others : List Range) → others_at n (swept ranges others) ≡ count_at n others
others-swept n [] others = others-others n others
others-swept n (r ∷ rs) others =
    let e : others_at n (own r ∷ swept rs others) ≡ 0 + others_at n (swept rs others) =
    sum_by-cons (one_other n) (own r) (swept rs others) in
    let i : others_at n (swept rs others) ≡ count_at n others = others-swept n rs others in
    omega arith

pub free_from_sweep :
    (ranges others : List Range) (sorted : List Swept) → IsPermutation (swept ranges others) sorted
    → ascend_from 0 0 sorted ≡ true → AreFree ranges others
free_from_sweep ranges others sorted same h = record {
  once = λ n.
      let e : own_at n sorted ≡ count_at n ranges =
      sum_by-IsPermutation (one_own n) (swept ranges others) sorted same ∙ own-swept n ranges others in
      let o : own_at n sorted ≤ 1 = (clear_each 0 0 sorted h n).once in
      omega arith;
  apart = λ n l.
      let e : own_at n sorted ≡ count_at n ranges =
      sum_by-IsPermutation (one_own n) (swept ranges others) sorted same ∙ own-swept n ranges others in
      let f : others_at n sorted ≡ count_at n others =
      sum_by-IsPermutation (one_other n) (swept ranges others) sorted same ∙ others-swept n ranges others in
      sym f ∙ (clear_each 0 0 sorted h n).apart (omega arith);
}

-- ---- meetings

-- a number of a list is in one of its ranges at least
counted : (n : ℕ) (ranges : List Range) → covers ranges n ≡ true → 1 ≤ count_at n ranges
counted n [] h = absurd (false≢true h)
counted n (r ∷ rs) h =
    let sum : count_at n (r ∷ rs) ≡ one n r + count_at n rs = count-cons n r rs in
    elim (or_cases (has n r) (covers rs n) h) [
      | inl here ↦ (let e : one n r ≡ 1 = cond-true (has n r) 1 0 here in omega arith)
      | inr there ↦ (let c : 1 ≤ count_at n rs = counted n rs there in omega arith)
    ]

counted_at :
    (n k : ℕ) (ranges : List Range) (d : Range) → k < length ranges → has n (get_or ranges k d) ≡ true
    → 1 ≤ count_at n ranges
counted_at n k [] d l g = absurd (omega arith)
counted_at n zero (r ∷ rs) d l g =
    let sum : count_at n (r ∷ rs) ≡ one n r + count_at n rs = count-cons n r rs in
    let e : one n r ≡ 1 = cond-true (has n r) 1 0 g in
    omega arith
counted_at n (suc k) (r ∷ rs) d l g =
    let sum : count_at n (r ∷ rs) ≡ one n r + count_at n rs = count-cons n r rs in
    let c : 1 ≤ count_at n rs = counted_at n k rs d (omega arith) g in
    omega arith

-- among the first and one more there are two, where both have it
counted_twice :
    (n k : ℕ) (ranges : List Range) (d : Range) → k < length ranges → covers (take k ranges) n ≡ true
    → has n (get_or ranges k d) ≡ true → 2 ≤ count_at n ranges
counted_twice n k [] d l h g = absurd (omega arith)
counted_twice n zero (r ∷ rs) d l h g = absurd (false≢true h)
counted_twice n (suc k) (r ∷ rs) d l h g =
    let sum : count_at n (r ∷ rs) ≡ one n r + count_at n rs = count-cons n r rs in
    elim (or_cases (has n r) (covers (take k rs) n) h) [
      | inl here ↦
          (let e : one n r ≡ 1 = cond-true (has n r) 1 0 here in
          let c : 1 ≤ count_at n rs = counted_at n k rs d (omega arith) g in
          omega arith)
      | inr there ↦ (let c : 2 ≤ count_at n rs = counted_twice n k rs d (omega arith) there g in omega arith)
    ]

-- of free ranges none meets an earlier one, or one of the others
none_earlier :
    (ranges others : List Range) (k : ℕ) → AreFree ranges others → k < length ranges
    → meets_any (take k ranges) (range_at ranges k) ≡ false
none_earlier ranges others k free l =
    false_from_ne_true (meets_any (take k ranges) (range_at ranges k)) (λ h.
    let s = covers-meets_any (take k ranges) (range_at ranges k) h in
    let c : 2 ≤ count_at s.0 ranges = counted_twice s.0 k ranges (record { from = 0; end = 0 }) l s.2 s.1 in
    let o : count_at s.0 ranges ≤ 1 = free.once s.0 in
    absurd (omega arith))

none_other :
    (ranges others : List Range) (k : ℕ) → AreFree ranges others → k < length ranges
    → meets_any others (range_at ranges k) ≡ false
none_other ranges others k free l =
    false_from_ne_true (meets_any others (range_at ranges k)) (λ h.
    let s = covers-meets_any others (range_at ranges k) h in
    let c : 1 ≤ count_at s.0 others = counted s.0 others s.2 in
    let z : count_at s.0 others ≡ 0 =
    free.apart s.0 (counted_at s.0 k ranges (record { from = 0; end = 0 }) l s.1) in
    absurd (omega arith))

pub first_meeting-free :
    (ranges others : List Range) → AreFree ranges others → first_meeting ranges others ≡ None
first_meeting-free ranges others free =
    least_number-none (meets_before ranges others) (length ranges) (λ k l.
    list_any-append (meets (range_at ranges k)) others (take k ranges)
    ∙ or_from (meets_any others (range_at ranges k)) (meets_any (take k ranges) (range_at ranges k))
    (none_other ranges others k free l) (none_earlier ranges others k free l))

pub first_meeting_any-free :
    (ranges others : List Range) → AreFree ranges others → first_meeting_any ranges others ≡ None
first_meeting_any-free ranges others free =
    position-none (meets_any others) ranges (record { from = 0; end = 0 }) (λ k l. none_other ranges others k free l)
