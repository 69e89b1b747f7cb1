-- What stays true of places when one comes or goes.
use Rattle.std.proofs.Common.{◌≡◌, ◌<◌, ℕ, Bool, true, false, List, [], ◌∷◌, refl, sym, ◌∙◌, ap, subst, inl, inr, ◌||◌, ◌&&◌, not}
use Rattle.std.specs.Prelude.{Some, None}
use Rattle.std.specs.List.{list_any}
use Rattle.std.specs.Map.{values_of}
use Rattle.std.specs.BTreeMap.{is_at}
use Rattle.std.specs.declared.cmp.Ordering.{Ordering}
use Rattle.std.specs.declared.cmp.Ordering.TheVariants.{Less, Equal, Greater}
use Rattle.std.specs.Ordering.{nat_cmp, MatchOrdering, match_ordering}
use Rattle.std.proofs.lemmas.Cmp.{ranked}
use Rattle.std.proofs.lemmas.Bool.{or_parts, or_from, or_left, or_right, cases_eq, cond-true, cond-false, eq-eqb, ne_eqb, false_from_ne_true, both_ways}
use Rattle.std.proofs.lemmas.Option.{same_Some, none-some}
use Rattle.ray_ranges.specs.declared.range.Range.{Range}
use Rattle.ray_ranges.specs.declared.place.Place.{Place}
use Rattle.ray_ranges.specs.Apart.{HaveTheSame, begins_at, without}
use Rattle.ray_ranges.specs.Places.{overlaps, Placements, place_at, with_place, without_place, overlaps_any}
use Rattle.ray_ranges.specs.Addresses.{addresses_of, IsPlace, AreSeparate, AreTaken}
use Rattle.ray_ranges.proofs.Ordered.{at_key}
use Rattle.ray_ranges.proofs.Lines.{overlaps_not_back, begins_elsewhere, any-map, any-filter}

-- a look-up in the first entry and the others
look-first : (id : ℕ) (e : ℕ × Place) (es : Placements) → e.0 ≡ id → place_at id (e ∷ es) ≡ Some e.1
look-first id e es same = cond-true (is_at (nat_cmp id) e.0) _ _ (at_key id e.0 ∙ eq-eqb e.0 id same)

look-later : (id : ℕ) (e : ℕ × Place) (es : Placements) → (e.0 ≡ id → ⊥) → place_at id (e ∷ es) ≡ place_at id es
look-later id e es differs = cond-false (is_at (nat_cmp id) e.0) _ _ (at_key id e.0 ∙ ne_eqb e.0 id differs)

-- an id without a place is neither the first, nor among the others
is_fresh :
    (id : ℕ) (e : ℕ × Place) (es : Placements) → place_at id (e ∷ es) ≡ None
    → (e.0 ≡ id → ⊥) × (place_at id es ≡ None)
is_fresh id e es h =
    let differs : e.0 ≡ id → ⊥ = λ same. none-some e.1 (sym h ∙ look-first id e es same) in
    (differs, sym (look-later id e es differs) ∙ h)

-- the entries with one more, by how its id stands to the first
abbrev put_by : Ordering → ℕ → Place → (ℕ × Place) → Placements → Placements
put_by order id place e es = match_ordering order ((id, place) ∷ e ∷ es) ((e.0, place) ∷ es) (e ∷ with_place id place es)

turned : (a b c : Bool) → (a || (b || c)) ≡ (b || (a || c))
turned true true c = refl
turned true false c = refl
turned false true c = refl
turned false false c = refl

any_by :
    (test : Place → Bool) (order : Ordering) (id : ℕ) (place : Place) (e : ℕ × Place) (es : Placements)
    → MatchOrdering order (id < e.0) (id ≡ e.0) (e.0 < id) → (e.0 ≡ id → ⊥)
    → list_any test (values_of (with_place id place es)) ≡ (test place || list_any test (values_of es))
    → list_any test (values_of (put_by order id place e es)) ≡ (test place || (test e.1 || list_any test (values_of es)))
any_by test Less id place e es l differs next = refl
any_by test Equal id place e es same differs next = absurd (differs (sym same))
any_by test Greater id place e es g differs next =
    ap (λ b. test e.1 || b) next ∙ turned (test e.1) (test place) (list_any test (values_of es))

pub any-with_place :
    (test : Place → Bool) (id : ℕ) (place : Place) (es : Placements) → place_at id es ≡ None
    → list_any test (values_of (with_place id place es)) ≡ (test place || list_any test (values_of es))
any-with_place test id place [] fresh = refl
any-with_place test id place (e ∷ es) fresh =
    let f = is_fresh id e es fresh in
    any_by test (nat_cmp id e.0) id place e es (ranked id e.0 (nat_cmp id e.0) refl) f.0
    (any-with_place test id place es f.1)

separate_by :
    (order : Ordering) (id : ℕ) (place : Place) (e : ℕ × Place) (es : Placements)
    → MatchOrdering order (id < e.0) (id ≡ e.0) (e.0 < id) → (e.0 ≡ id → ⊥) → place_at id es ≡ None
    → IsPlace place → AreSeparate (values_of (e ∷ es)) → overlaps_any (e ∷ es) place ≡ false
    → AreSeparate (values_of (with_place id place es))
    → AreSeparate (values_of (put_by order id place e es))
separate_by Less id place e es l differs fresh is separate free next = (is, free, separate)
separate_by Equal id place e es same differs fresh is separate free next = absurd (differs (sym same))
separate_by Greater id place e es g differs fresh is (it, others, rest) free next = (
  it,
  any-with_place (overlaps e.1) id place es fresh
      ∙ or_from (overlaps e.1 place) (overlaps_any es e.1)
      (overlaps_not_back place e.1 (or_parts (overlaps place e.1) (overlaps_any es place) free).0) others,
  next,
)

pub separate-with_place :
    (id : ℕ) (place : Place) (es : Placements) → place_at id es ≡ None → IsPlace place
    → AreSeparate (values_of es) → overlaps_any es place ≡ false
    → AreSeparate (values_of (with_place id place es))
separate-with_place id place [] fresh is separate free = (is, refl, tt)
separate-with_place id place (e ∷ es) fresh is separate free =
    let f = is_fresh id e es fresh in
    separate_by (nat_cmp id e.0) id place e es (ranked id e.0 (nat_cmp id e.0) refl) f.0 f.1 is separate free
    (separate-with_place id place es f.1 is separate.2 (or_parts (overlaps place e.1) (overlaps_any es place) free).1)

-- what is taken once a place has come
pub taken-with_place :
    (id : ℕ) (place : Place) (es : Placements) (old new : List Range) → place_at id es ≡ None
    → IsPlace place → overlaps_any es place ≡ false
    → AreTaken (values_of es) old → HaveTheSame new (addresses_of place ∷ old)
    → AreTaken (values_of (with_place id place es)) new
taken-with_place id place es old new fresh is free taken same = record {
  separate = separate-with_place id place es fresh is taken.separate free;
  taken = λ test.
      same test
      ∙ (ap (λ b. test (addresses_of place) || b) (taken.taken test ∙ any-map addresses_of test (values_of es))
      ∙ (sym (any-with_place (λ p. test (addresses_of p)) id place es fresh)
      ∙ sym (any-map addresses_of test (values_of (with_place id place es)))));
}

-- a place that came is taken away again
back_by :
    (order : Ordering) (id : ℕ) (place : Place) (e : ℕ × Place) (es : Placements)
    → MatchOrdering order (id < e.0) (id ≡ e.0) (e.0 < id) → (e.0 ≡ id → ⊥)
    → without_place id (with_place id place es) ≡ es
    → without_place id (put_by order id place e es) ≡ e ∷ es
back_by Less id place e es l differs next =
    cond-true (is_at (nat_cmp id) id) _ _ (at_key id id ∙ eq-eqb id id refl)
back_by Equal id place e es same differs next = absurd (differs (sym same))
back_by Greater id place e es g differs next =
    cond-false (is_at (nat_cmp id) e.0) _ _ (at_key id e.0 ∙ ne_eqb e.0 id differs) ∙ ap (λ ps. e ∷ ps) next

pub without_place-with_place :
    (id : ℕ) (place : Place) (es : Placements) → place_at id es ≡ None
    → without_place id (with_place id place es) ≡ es
without_place-with_place id place [] fresh =
    cond-true (is_at (nat_cmp id) id) _ _ (at_key id id ∙ eq-eqb id id refl)
without_place-with_place id place (e ∷ es) fresh =
    let f = is_fresh id e es fresh in
    back_by (nat_cmp id e.0) id place e es (ranked id e.0 (nat_cmp id e.0) refl) f.0
    (without_place-with_place id place es f.1)

-- the entries without an id, by the first
go-first : (id : ℕ) (e : ℕ × Place) (es : Placements) → e.0 ≡ id → without_place id (e ∷ es) ≡ es
go-first id e es same = cond-true (is_at (nat_cmp id) e.0) _ _ (at_key id e.0 ∙ eq-eqb e.0 id same)

go-later :
    (id : ℕ) (e : ℕ × Place) (es : Placements) → (e.0 ≡ id → ⊥) → without_place id (e ∷ es) ≡ e ∷ without_place id es
go-later id e es differs = cond-false (is_at (nat_cmp id) e.0) _ _ (at_key id e.0 ∙ ne_eqb e.0 id differs)

-- a test that finds none finds none among fewer
any_fewer :
    (test : Place → Bool) (id : ℕ) (es : Placements) → list_any test (values_of es) ≡ false
    → list_any test (values_of (without_place id es)) ≡ false
any_fewer test id [] h = refl
any_fewer test id (e ∷ es) h =
    let parts = or_parts (test e.1) (list_any test (values_of es)) h in
    elim (cases_eq e.0 id) [
      | inl same ↦ ap (λ ps. list_any test (values_of ps)) (go-first id e es same) ∙ parts.1
      | inr differs ↦
          ap (λ ps. list_any test (values_of ps)) (go-later id e es differs)
          ∙ or_from (test e.1) (list_any test (values_of (without_place id es))) parts.0 (any_fewer test id es parts.1)
    ]

separate-without_place :
    (id : ℕ) (es : Placements) → AreSeparate (values_of es) → AreSeparate (values_of (without_place id es))
separate-without_place id [] separate = tt
separate-without_place id (e ∷ es) (is, free, rest) =
    elim (cases_eq e.0 id) [
      | inl same ↦ subst (λ ps. AreSeparate (values_of ps)) (sym (go-first id e es same)) rest
      | inr differs ↦
          subst (λ ps. AreSeparate (values_of ps)) (sym (go-later id e es differs))
          (is, any_fewer (overlaps e.1) id es free, separate-without_place id es rest)
    ]

-- what a look-up finds is among the places, and is one
any_found :
    (test : Place → Bool) (id : ℕ) (place : Place) (es : Placements) → place_at id es ≡ Some place
    → test place ≡ true → list_any test (values_of es) ≡ true
any_found test id place [] h t = absurd (none-some place h)
any_found test id place (e ∷ es) h t =
    elim (cases_eq e.0 id) [
      | inl same ↦
          or_left (test e.1) (list_any test (values_of es))
          (subst (λ p. test p ≡ true) (sym (same_Some e.1 place (sym (look-first id e es same) ∙ h))) t)
      | inr differs ↦
          or_right (test e.1) (list_any test (values_of es))
          (any_found test id place es (sym (look-later id e es differs) ∙ h) t)
    ]

is_place :
    (id : ℕ) (place : Place) (es : Placements) → AreSeparate (values_of es) → place_at id es ≡ Some place
    → IsPlace place
is_place id place [] separate h = absurd (none-some place h)
is_place id place (e ∷ es) (is, free, rest) h =
    elim (cases_eq e.0 id) [
      | inl same ↦ subst IsPlace (same_Some e.1 place (sym (look-first id e es same) ∙ h)) is
      | inr differs ↦ is_place id place es rest (sym (look-later id e es differs) ∙ h)
    ]

-- a test that leaves out what begins at a place, of places that don't share a byte with it
abbrev elsewhere : Place → (Range → Bool) → Place → Bool
elsewhere place test other =
    not (begins_at (addresses_of place).from (addresses_of other)) && test (addresses_of other)

elsewhere-free :
    (place other : Place) (test : Range → Bool) → IsPlace place → IsPlace other → overlaps place other ≡ false
    → elsewhere place test other ≡ test (addresses_of other)
elsewhere-free place other test is it free =
    ap (λ b. not b && test (addresses_of other)) (begins_elsewhere place other is it free)

all_elsewhere :
    (place : Place) (test : Range → Bool) (places : List Place) → IsPlace place → AreSeparate places
    → list_any (overlaps place) places ≡ false
    → list_any (elsewhere place test) places ≡ list_any (λ p. test (addresses_of p)) places
all_elsewhere place test [] is separate free = refl
all_elsewhere place test (p ∷ ps) is (it, others, rest) free =
    let parts = or_parts (overlaps place p) (list_any (overlaps place) ps) free in
    ap (λ b. b || list_any (elsewhere place test) ps) (elsewhere-free place p test is it parts.0)
    ∙ ap (λ b. test (addresses_of p) || b) (all_elsewhere place test ps is rest parts.1)

any-without_place :
    (id : ℕ) (place : Place) (test : Range → Bool) (es : Placements) → AreSeparate (values_of es)
    → place_at id es ≡ Some place
    → list_any (elsewhere place test) (values_of es)
    ≡ list_any (λ p. test (addresses_of p)) (values_of (without_place id es))
any-without_place id place test [] separate h = absurd (none-some place h)
any-without_place id place test (e ∷ es) (it, free, rest) h =
    elim (cases_eq e.0 id) [
      | inl same ↦
          (let is : e.1 ≡ place = same_Some e.1 place (sym (look-first id e es same) ∙ h) in
          let starts : begins_at (addresses_of place).from (addresses_of e.1) ≡ true =
          eq-eqb _ _ (ap (λ p. (addresses_of p).from) is) in
          ap (λ b. (not b && test (addresses_of e.1)) || list_any (elsewhere place test) (values_of es)) starts
          ∙ (all_elsewhere place test (values_of es) (subst IsPlace is it) rest
          (subst (λ p. list_any (overlaps p) (values_of es) ≡ false) is free)
          ∙ sym (ap (λ ps. list_any (λ p. test (addresses_of p)) (values_of ps)) (go-first id e es same))))
      | inr differs ↦
          (let found : place_at id es ≡ Some place = sym (look-later id e es differs) ∙ h in
          let apart : overlaps e.1 place ≡ false =
          false_from_ne_true (overlaps e.1 place) (λ g.
          both_ways (list_any (overlaps e.1) (values_of es)) free (any_found (overlaps e.1) id place es found g)) in
          ap (λ b. b || list_any (elsewhere place test) (values_of es))
          (elsewhere-free place e.1 test (is_place id place es rest found) it (overlaps_not_back e.1 place apart))
          ∙ (ap (λ b. test (addresses_of e.1) || b) (any-without_place id place test es rest found)
          ∙ sym (ap (λ ps. list_any (λ p. test (addresses_of p)) (values_of ps)) (go-later id e es differs))))
    ]

-- what is taken once a place has gone
pub taken-without_place :
    (id : ℕ) (place : Place) (es : Placements) (old new : List Range) → place_at id es ≡ Some place
    → AreTaken (values_of es) old → new ≡ without (addresses_of place).from old
    → AreTaken (values_of (without_place id es)) new
taken-without_place id place es old new found taken left = record {
  separate = separate-without_place id es taken.separate;
  taken = λ test.
      ap (list_any test) left
      ∙ (any-filter (λ r. not (begins_at (addresses_of place).from r)) test old
      ∙ (taken.taken (λ r. not (begins_at (addresses_of place).from r) && test r)
      ∙ (any-map addresses_of (λ r. not (begins_at (addresses_of place).from r) && test r) (values_of es)
      ∙ (any-without_place id place test es taken.separate found
      ∙ sym (any-map addresses_of test (values_of (without_place id es)))))));
}
