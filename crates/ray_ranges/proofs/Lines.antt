-- Places share a byte exactly where their addresses meet.
use Rattle.std.proofs.Common.{◌≡◌, ◌<◌, ◌≤◌, ◌^◌, ℕ, ◌+◌, ◌*◌, Bool, true, false, List, [], ◌∷◌, refl, sym, ◌∙◌, ap, arith, inl, inr, ◌||◌, ◌&&◌, map}
use Rattle.std.specs.Prelude.{◌==◌}
use Rattle.std.specs.List.{list_any, filter}
use Rattle.std.proofs.lemmas.Bool.{and_parts, and_from, cases_Bool, eq-eqb, eqb-true, false_from_ne_true, both_ways, cond-true, cond-false}
use Rattle.ray_ranges.specs.declared.place.Place.{Place}
use Rattle.ray_ranges.specs.Meeting.{meets, meets_any}
use Rattle.ray_ranges.specs.Apart.{begins_at}
use Rattle.ray_ranges.specs.Places.{bytes_of, overlaps}
use Rattle.ray_ranges.specs.Addresses.{address, addresses_of, all_addresses, IsPlace, AreSeparate}
use Rattle.ray_ranges.proofs.Shared.{AreMeeting, are_meeting, meets_from, same_Bool}

-- addresses that lie in both of two spaces lie in one
one_space :
    (s t a b c d : ℕ) → s * 2 ^ 66 + a < t * 2 ^ 66 + d → t * 2 ^ 66 + b < s * 2 ^ 66 + c
    → c ≤ 2 ^ 66 → d ≤ 2 ^ 66 → s ≡ t
one_space s t a b c d h g k l = omega arith

pub overlaps-meets :
    (a b : Place) → a.from + a.size ≤ 2 ^ 66 → b.from + b.size ≤ 2 ^ 66
    → overlaps a b ≡ true → meets (addresses_of a) (addresses_of b) ≡ true
overlaps-meets a b fits others h =
    let parts = and_parts (a.space == b.space) (meets (bytes_of a) (bytes_of b)) h in
    let same : a.space ≡ b.space = eqb-true a.space b.space parts.0 in
    let scaled : a.space * 2 ^ 66 ≡ b.space * 2 ^ 66 = ap (λ s. s * 2 ^ 66) same in
    let m : AreMeeting (bytes_of a) (bytes_of b) = are_meeting (bytes_of a) (bytes_of b) parts.1 in
    meets_from (addresses_of a) (addresses_of b)
    (record { first = omega arith; second = omega arith; some = omega arith; other = omega arith })

pub meets-overlaps :
    (a b : Place) → a.from + a.size ≤ 2 ^ 66 → b.from + b.size ≤ 2 ^ 66
    → meets (addresses_of a) (addresses_of b) ≡ true → overlaps a b ≡ true
meets-overlaps a b fits others h =
    let m : AreMeeting (addresses_of a) (addresses_of b) = are_meeting (addresses_of a) (addresses_of b) h in
    let same : a.space ≡ b.space =
    one_space a.space b.space a.from b.from (a.from + a.size) (b.from + b.size) m.first m.second fits others in
    let scaled : a.space * 2 ^ 66 ≡ b.space * 2 ^ 66 = ap (λ s. s * 2 ^ 66) same in
    and_from (a.space == b.space) (meets (bytes_of a) (bytes_of b)) (eq-eqb a.space b.space same)
    (meets_from (bytes_of a) (bytes_of b)
    (record { first = omega arith; second = omega arith; some = omega arith; other = omega arith }))

pub meets_any-addresses :
    (place : Place) (places : List Place) → place.from + place.size ≤ 2 ^ 66 → AreSeparate places
    → meets_any (map addresses_of places) (addresses_of place) ≡ list_any (overlaps place) places
meets_any-addresses place [] fits separate = refl
meets_any-addresses place (p ∷ ps) fits (is, free, rest) =
    ap (λ b. b || meets_any (map addresses_of ps) (addresses_of place))
    (same_Bool (meets (addresses_of place) (addresses_of p)) (overlaps place p)
    (meets-overlaps place p fits is.fits) (overlaps-meets place p fits is.fits))
    ∙ ap (λ b. overlaps place p || b) (meets_any-addresses place ps fits rest)

-- a place is in a space exactly where its addresses meet the space's
pub meets-space :
    (space : ℕ) (place : Place) → IsPlace place
    → meets (all_addresses space) (addresses_of place) ≡ (place.space == space)
meets-space space place is =
    same_Bool (meets (all_addresses space) (addresses_of place)) (place.space == space)
    (λ h.
    let m : AreMeeting (all_addresses space) (addresses_of place) =
    are_meeting (all_addresses space) (addresses_of place) h in
    let some : 0 < place.size = is.some in
    let fits : place.from + place.size ≤ 2 ^ 66 = is.fits in
    eq-eqb place.space space (omega arith))
    (λ h.
    let same : place.space ≡ space = eqb-true place.space space h in
    let some : 0 < place.size = is.some in
    let fits : place.from + place.size ≤ 2 ^ 66 = is.fits in
    meets_from (all_addresses space) (addresses_of place)
    (record { first = omega arith; second = omega arith; some = omega arith; other = omega arith }))

pub meets_any-space :
    (space : ℕ) (places : List Place) → AreSeparate places
    → meets_any (map addresses_of places) (all_addresses space) ≡ list_any (λ place. place.space == space) places
meets_any-space space [] separate = refl
meets_any-space space (p ∷ ps) (is, free, rest) =
    ap (λ b. b || meets_any (map addresses_of ps) (all_addresses space)) (meets-space space p is)
    ∙ ap (λ b. (p.space == space) || b) (meets_any-space space ps rest)

-- sharing a byte is symmetric
pub overlaps_back : (a b : Place) → overlaps a b ≡ true → overlaps b a ≡ true
overlaps_back a b h =
    let parts = and_parts (a.space == b.space) (meets (bytes_of a) (bytes_of b)) h in
    let m : AreMeeting (bytes_of a) (bytes_of b) = are_meeting (bytes_of a) (bytes_of b) parts.1 in
    and_from (b.space == a.space) (meets (bytes_of b) (bytes_of a))
    (eq-eqb b.space a.space (sym (eqb-true a.space b.space parts.0)))
    (meets_from (bytes_of b) (bytes_of a)
    (record { first = m.second; second = m.first; some = m.other; other = m.some }))

pub overlaps_not_back : (a b : Place) → overlaps a b ≡ false → overlaps b a ≡ false
overlaps_not_back a b h = false_from_ne_true (overlaps b a) (λ g. both_ways (overlaps a b) h (overlaps_back b a g))

-- places that share no byte begin at different addresses
pub begins_elsewhere :
    (a b : Place) → IsPlace a → IsPlace b → overlaps a b ≡ false
    → begins_at (addresses_of a).from (addresses_of b) ≡ false
begins_elsewhere a b is it free =
    false_from_ne_true (begins_at (addresses_of a).from (addresses_of b)) (λ h.
    let same : address b.space b.from ≡ address a.space a.from = eqb-true _ _ h in
    let some : 0 < a.size = is.some in
    let other : 0 < b.size = it.some in
    both_ways (overlaps a b) free
    (meets-overlaps a b is.fits it.fits
    (meets_from (addresses_of a) (addresses_of b)
    (record { first = omega arith; second = omega arith; some = omega arith; other = omega arith }))))

-- a test of images, and of what passes a filter
pub any-map :
    {X Y : Type 0} (f : X → Y) (test : Y → Bool) (xs : List X) → list_any test (map f xs) ≡ list_any (λ x. test (f x)) xs
any-map f test [] = refl
any-map f test (x ∷ xs) = ap (λ b. test (f x) || b) (any-map f test xs)

filtered : (keep here rest : Bool) → (keep ≡ false → rest ≡ ((keep && here) || rest)) × (keep ≡ true → (here || rest) ≡ ((keep && here) || rest))
filtered true here rest = (λ h. cc, λ h. refl)
filtered false here rest = (λ h. refl, λ h. cc)

pub any-filter :
    {X : Type 0} (keep test : X → Bool) (xs : List X)
    → list_any test (filter keep xs) ≡ list_any (λ x. keep x && test x) xs
any-filter keep test [] = refl
any-filter keep test (x ∷ xs) =
    elim (cases_Bool (keep x)) [
      | inl h ↦
          ap (list_any test) (cond-true (keep x) _ _ h)
          ∙ (ap (λ b. test x || b) (any-filter keep test xs)
          ∙ (filtered (keep x) (test x) (list_any (λ y. keep y && test y) xs)).1 h)
      | inr h ↦
          ap (list_any test) (cond-false (keep x) _ _ h)
          ∙ (any-filter keep test xs ∙ (filtered (keep x) (test x) (list_any (λ y. keep y && test y) xs)).0 h)
    ]
