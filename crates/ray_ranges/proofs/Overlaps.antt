-- The first place that shares a byte with an earlier one is the first whose addresses meet earlier ones.
use Rattle.std.proofs.Common.{◌≡◌, ◌<◌, ◌≤◌, ◌^◌, ℕ, ◌+◌, zero, suc, Bool, List, [], ◌∷◌, refl, sym, ◌∙◌, ap, arith, map, take, length, get_or, ◌||◌, not}
use Rattle.std.specs.Prelude.{Some, None, nat_lt, cond}
use Rattle.std.specs.List.{list_any, All, position, position_or_len, range_with_len}
use Rattle.std.proofs.lemmas.List.{take-map, length-map}
use Rattle.std.proofs.lemmas.List.Elements.{All-head, All-tail, All-take}
use Rattle.std.proofs.lemmas.List.Sums.{prefix_len-le-length, fails_before_first, passes_at_first}
use Rattle.std.proofs.lemmas.List.FromFn.{length-range_with_len, get_or-range_with_len}
use Rattle.ray_ranges.specs.declared.place.Place.{Place}
use Rattle.ray_ranges.specs.Meeting.{meets, meets_any}
use Rattle.ray_ranges.specs.First.{range_at, meets_before, first_meeting_earlier}
use Rattle.ray_ranges.specs.Places.{overlaps, place_number, overlaps_before, first_overlapping}
use Rattle.ray_ranges.specs.Addresses.{addresses_of}
use Rattle.ray_ranges.proofs.Shared.{same_Bool}
use Rattle.ray_ranges.proofs.Lines.{overlaps-meets, meets-overlaps}
use Rattle.ray_ranges.proofs.Firsts.{least_number}

abbrev Fits : Place → Type 0
Fits place = place.from + place.size ≤ 2 ^ 66

meets_any-fit :
    (place : Place) (places : List Place) → Fits place → All Fits places
    → meets_any (map addresses_of places) (addresses_of place) ≡ list_any (overlaps place) places
meets_any-fit place [] is fit = refl
meets_any-fit place (p ∷ ps) is fit =
    let first : Fits p = All-head Fits p ps fit in
    ap (λ b. b || meets_any (map addresses_of ps) (addresses_of place))
    (same_Bool (meets (addresses_of place) (addresses_of p)) (overlaps place p)
    (meets-overlaps place p is first) (overlaps-meets place p is first))
    ∙ ap (λ b. overlaps place p || b) (meets_any-fit place ps is (All-tail Fits p ps fit))

-- the first number below n that passes a test is that of another which answers alike below n
alike :
    (test other : ℕ → Bool) (m n : ℕ) → m ≡ n → ((k : ℕ) → k < n → test k ≡ other k)
    → position test (range_with_len 0 m) ≡ position other (range_with_len 0 n)
alike test other m n e same =
    let long : length (range_with_len 0 n) ≡ n = length-range_with_len 0 n in
    let within : position_or_len other (range_with_len 0 n) ≤ length (range_with_len 0 n) = bound in
    let at : (j : ℕ) → j < n → get_or (range_with_len 0 n) j 0 ≡ j =
    λ j l. get_or-range_with_len 0 n j 0 l ∙ (let z : 0 + j ≡ j = omega arith in z) in
    let first : position_or_len test (range_with_len 0 n) ≡ position_or_len other (range_with_len 0 n) =
    least_number test n (position_or_len other (range_with_len 0 n)) (omega arith)
    (λ j l. same j (omega arith) ∙ (ap other (sym (at j (omega arith)))
    ∙ fails_before_first other (range_with_len 0 n) j 0 l))
    (λ l. same (position_or_len other (range_with_len 0 n)) l
    ∙ (ap other (sym (at (position_or_len other (range_with_len 0 n)) l))
    ∙ passes_at_first other (range_with_len 0 n) 0 (omega arith))) in
    ap (λ k. position test (range_with_len 0 k)) e
    ∙ ap (λ k. cond (nat_lt k (length (range_with_len 0 n))) (Some k) None) first
  where
    bound : position_or_len other (range_with_len 0 n) ≤ length (range_with_len 0 n)
    bound = prefix_len-le-length (λ k. not (other k)) (range_with_len 0 n)

before_same :
    (places : List Place) (k : ℕ) → All Fits places → k < length places
    → meets_before (map addresses_of places) [] k ≡ overlaps_before places k
before_same places k fit l =
    let here : range_at (map addresses_of places) k ≡ addresses_of (place_number places k) = at places k l in
    ap (λ rs. meets_any rs (range_at (map addresses_of places) k)) (take-map addresses_of k places)
    ∙ (ap (meets_any (map addresses_of (take k places))) here
    ∙ meets_any-fit (place_number places k) (take k places)
    (fit k (record { space = 0; from = 0; size = 0 }) l) (All-take Fits k places fit))
  where
    at : (ps : List Place) (j : ℕ) → j < length ps → range_at (map addresses_of ps) j ≡ addresses_of (place_number ps j)
    at [] j m = absurd (omega arith)
    at (p ∷ ps) zero m = refl
    at (p ∷ ps) (suc j) m = at ps j (omega arith)

pub overlapping_by_addresses :
    (places : List Place) → All Fits places
    → first_meeting_earlier (map addresses_of places) ≡ first_overlapping places
overlapping_by_addresses places fit =
    alike (meets_before (map addresses_of places) []) (overlaps_before places) (length (map addresses_of places))
    (length places) (length-map places addresses_of) (λ k l. before_same places k fit l)
