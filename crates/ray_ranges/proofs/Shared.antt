-- Two ranges meet exactly where they share a number.
use Rattle.std.proofs.Common.{◌≡◌, ◌<◌, ◌≤◌, ℕ, Bool, true, List, [], ◌∷◌, sym, ◌∙◌, arith, inl, inr}
use Rattle.std.specs.Prelude.{◌↔◌}
use Rattle.std.proofs.lemmas.Bool.{or_cases, or_left, or_right, cases_Bool, cases_lt, false_from_ne_true, both_ways, false≢true}
use Rattle.std.proofs.lemmas.Bool.Decides.{nat_tests}
use Rattle.ray_ranges.specs.declared.range.Range.{Range}
use Rattle.ray_ranges.specs.Meeting.{has, meets, ShareNumber, meets_any, covers}

-- what it means that two ranges meet
pub record AreMeeting (a b : Range) : Type 0 where
  pub first : a.from < b.end
  pub second : b.from < a.end
  pub some : a.from < a.end
  pub other : b.from < b.end

pub are_meeting : (a b : Range) → meets a b ≡ true → AreMeeting a b
are_meeting a b h = record {
  first = grind (arith, nat_tests, h);
  second = grind (arith, nat_tests, h);
  some = grind (arith, nat_tests, h);
  other = grind (arith, nat_tests, h);
}

pub meets_from : (a b : Range) → AreMeeting a b → meets a b ≡ true
meets_from a b h = grind (arith, nat_tests, h.first, h.second, h.some, h.other)

-- what it means that a number is in a range
pub record IsWithin (n : ℕ) (range : Range) : Type 0 where
  pub least : range.from ≤ n
  pub below : n < range.end

pub is_within : (n : ℕ) (range : Range) → has n range ≡ true → IsWithin n range
is_within n range h = record {
  least = grind (arith, nat_tests, h);
  below = grind (arith, nat_tests, h);
}

pub has_from : (n : ℕ) (range : Range) → IsWithin n range → has n range ≡ true
has_from n range h = grind (arith, nat_tests, h.least, h.below)

pub meets-shared : (n : ℕ) (a b : Range) → has n a ≡ true → has n b ≡ true → meets a b ≡ true
meets-shared n a b h g =
    let x : IsWithin n a = is_within n a h in
    let y : IsWithin n b = is_within n b g in
    meets_from a b (record { first = omega arith; second = omega arith; some = omega arith; other = omega arith })

pub shared-meets : (a b : Range) → meets a b ≡ true → ShareNumber a b
shared-meets a b h =
    let m : AreMeeting a b = are_meeting a b h in
    elim (cases_lt a.from b.from) [
      | inl l ↦ (
        b.from,
        has_from b.from a (record { least = omega arith; below = omega arith }),
        has_from b.from b (record { least = omega arith; below = omega arith }),
      )
      | inr g ↦ (
        a.from,
        has_from a.from a (record { least = omega arith; below = omega arith }),
        has_from a.from b (record { least = omega arith; below = omega arith }),
      )
    ]

pub meets_iff_shared : (a b : Range) → (meets a b ≡ true) ↔ ShareNumber a b
meets_iff_shared a b = (shared-meets a b, λ s. meets-shared s.0 a b s.1 s.2)

-- a range meets one of a list exactly where it shares a number with the list
pub meets_any-covers :
    (ranges : List Range) (range : Range) (n : ℕ) → has n range ≡ true → covers ranges n ≡ true
    → meets_any ranges range ≡ true
meets_any-covers [] range n h g = absurd (false≢true g)
meets_any-covers (r ∷ rs) range n h g =
    elim (or_cases (has n r) (covers rs n) g) [
      | inl here ↦ or_left (meets range r) (meets_any rs range) (meets-shared n range r h here)
      | inr there ↦ or_right (meets range r) (meets_any rs range) (meets_any-covers rs range n h there)
    ]

pub covers-meets_any :
    (ranges : List Range) (range : Range) → meets_any ranges range ≡ true
    → (n : ℕ) × (has n range ≡ true) × (covers ranges n ≡ true)
covers-meets_any [] range g = absurd (false≢true g)
covers-meets_any (r ∷ rs) range g =
    elim (or_cases (meets range r) (meets_any rs range) g) [
      | inl here ↦
          (let s : ShareNumber range r = shared-meets range r here in
          (s.0, s.1, or_left (has s.0 r) (covers rs s.0) s.2))
      | inr there ↦
          (let s = covers-meets_any rs range there in (s.0, s.1, or_right (has s.0 r) (covers rs s.0) s.2))
    ]

-- two answers that are true together are one
pub same_Bool : (x y : Bool) → (x ≡ true → y ≡ true) → (y ≡ true → x ≡ true) → x ≡ y
same_Bool x y there back =
    elim (cases_Bool x) [
      | inl h ↦ h ∙ sym (there h)
      | inr h ↦ h ∙ sym (false_from_ne_true y (λ g. both_ways x h (back g)))
    ]

-- lists with the same numbers meet the same ranges
pub meets_any_same :
    (some others : List Range) → ((n : ℕ) → covers some n ≡ covers others n)
    → (range : Range) → meets_any some range ≡ meets_any others range
meets_any_same some others same range =
    same_Bool (meets_any some range) (meets_any others range)
    (λ h. let s = covers-meets_any some range h in meets_any-covers others range s.0 s.1 (sym (same s.0) ∙ s.2))
    (λ h. let s = covers-meets_any others range h in meets_any-covers some range s.0 s.1 (same s.0 ∙ s.2))
