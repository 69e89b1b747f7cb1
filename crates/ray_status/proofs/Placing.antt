-- The places of structures, once a structure is put under an id or taken away.
use Rattle.std.proofs.Common.{◌≡◌, ◌∷◌, ◌||◌, [], ℕ, Bool, true, false, Some, None, arith, ap, sym, ◌∙◌, refl, cond}
use Rattle.std.specs.BTreeMap.{is_at}
use Rattle.std.specs.List.{list_any}
use Rattle.std.specs.List.Sorted.{IsStrictlySortedBy}
use Rattle.std.specs.Map.{values_of, keys_of}
use Rattle.std.specs.Option.{option_map}
use Rattle.std.specs.Ordering.{nat_cmp, is_eq, match_ordering}
use Rattle.std.specs.declared.cmp.Ordering.{Ordering}
use Rattle.std.specs.declared.cmp.Ordering.TheVariants.{Less, Equal, Greater}
use Rattle.std.proofs.lemmas.Cmp.{nat_cmp_total}
use Rattle.std.proofs.lemmas.Map.Entries.{lookup_at_gap}
use Rattle.std.proofs.lemmas.Map.Keys.{sorted_tail}
use Rattle.std.specs.Prelude.{Option}
use Rattle.ray_ranges.specs.declared.place.Place.{Place}
use Rattle.ray_ranges.specs.Places.{place_at, with_place, without_place}
use Rattle.ray_rules.specs.Ids.{Ids, look, with_id, without_id}
use Rattle.ray_rules.specs.declared.live_structure.LiveStructure.{LiveStructure}
use Rattle.ray_status.specs.Parts.{places_of, structure_place}

-- a test of places asks the same of the structures
pub any-places : (test : Place → Bool) (es : Ids LiveStructure)
    → list_any test (values_of (places_of es)) ≡ list_any (λ s. test (structure_place s)) (values_of es)
any-places test [] = refl
any-places test (e ∷ es) = ap (λ b. test (structure_place e.1) || b) (any-places test es)

-- a look-up, by whether the id is the first
look_by : (here : Bool) (e : ℕ × LiveStructure) (found : Option LiveStructure) (place : Option Place)
    → place ≡ option_map structure_place found
    → cond here (Some (structure_place e.1)) place ≡ option_map structure_place (cond here (Some e.1) found)
look_by true e found place h = refl
look_by false e found place h = h

-- the place of an id
pub look-places : (id : ℕ) (es : Ids LiveStructure) → place_at id (places_of es) ≡ option_map structure_place (look es id)
look-places id [] = refl
look-places id (e ∷ es) =
    look_by (is_at (nat_cmp id) e.0) e (look es id) (place_at id (places_of es)) (look-places id es)

-- one more, by how its id stands to the first
with_by : (order : Ordering) (id : ℕ) (s : LiveStructure) (e : ℕ × LiveStructure) (es : Ids LiveStructure)
    → places_of (with_id id s es) ≡ with_place id (structure_place s) (places_of es)
    → places_of (match_ordering order ((id, s) ∷ e ∷ es) ((e.0, s) ∷ es) (e ∷ with_id id s es))
    ≡ match_ordering order ((id, structure_place s) ∷ places_of (e ∷ es)) ((e.0, structure_place s) ∷ places_of es)
    ((e.0, structure_place e.1) ∷ with_place id (structure_place s) (places_of es))
with_by Less id s e es next = refl
with_by Equal id s e es next = refl
with_by Greater id s e es next = ap (λ ps. (e.0, structure_place e.1) ∷ ps) next

-- one more
pub places-with : (id : ℕ) (s : LiveStructure) (es : Ids LiveStructure)
    → places_of (with_id id s es) ≡ with_place id (structure_place s) (places_of es)
places-with id s [] = refl
places-with id s (e ∷ es) = with_by (nat_cmp id e.0) id s e es (places-with id s es)

-- one less, by whether it is the first
without_by : (here : Bool) (id : ℕ) (e : ℕ × LiveStructure) (es : Ids LiveStructure)
    → places_of (without_id id es) ≡ without_place id (places_of es)
    → places_of (cond here es (e ∷ without_id id es))
    ≡ cond here (places_of es) ((e.0, structure_place e.1) ∷ without_place id (places_of es))
without_by true id e es next = refl
without_by false id e es next = ap (λ ps. (e.0, structure_place e.1) ∷ ps) next

-- one less
pub places-without : (id : ℕ) (es : Ids LiveStructure) → places_of (without_id id es) ≡ without_place id (places_of es)
places-without id [] = refl
places-without id (e ∷ es) = without_by (is_at (nat_cmp id) e.0) id e es (places-without id es)

-- another structure in the same place, by how its id stands to the first
kept_by : (order : Ordering) (id : ℕ) (s : LiveStructure) (e : ℕ × LiveStructure) (es : Ids LiveStructure)
    → (order ≡ Less → ⊥)
    → option_map structure_place (cond (is_eq order) (Some e.1) (look es id)) ≡ Some (structure_place s)
    → (option_map structure_place (look es id) ≡ Some (structure_place s) → places_of (with_id id s es) ≡ places_of es)
    → places_of (match_ordering order ((id, s) ∷ e ∷ es) ((e.0, s) ∷ es) (e ∷ with_id id s es)) ≡ places_of (e ∷ es)
kept_by Less id s e es above there next = absurd (above refl)
kept_by Equal id s e es above there next =
    let same : structure_place e.1 ≡ structure_place s = cc in
    ap (λ p. (e.0, p) ∷ places_of es) (sym same)
kept_by Greater id s e es above there next = ap (λ ps. (e.0, structure_place e.1) ∷ ps) (next there)

-- nothing stands below the first id
none_below : (id : ℕ) (e : ℕ × LiveStructure) (es : Ids LiveStructure)
    → IsStrictlySortedBy nat_cmp (keys_of (e ∷ es)) → nat_cmp id e.0 ≡ Less → look (e ∷ es) id ≡ None
none_below id e es sorted less =
    lookup_at_gap nat_cmp_total id (e ∷ es) 0 sorted (λ j x below there. absurd (omega arith))
    (λ x there. let first : e ≡ x = cc in ap (λ y. nat_cmp id y.0) (sym first) ∙ less)

-- another structure in the same place
pub places-kept : (id : ℕ) (s : LiveStructure) (es : Ids LiveStructure)
    → IsStrictlySortedBy nat_cmp (keys_of es)
    → option_map structure_place (look es id) ≡ Some (structure_place s)
    → places_of (with_id id s es) ≡ places_of es
places-kept id s [] sorted there = absurd (cc)
places-kept id s (e ∷ es) sorted there =
    kept_by (nat_cmp id e.0) id s e es
    (λ less. let none : look (e ∷ es) id ≡ None = none_below id e es sorted less in
    let no : option_map structure_place (look (e ∷ es) id) ≡ None = ap (option_map structure_place) none in
    absurd (cc))
    there
    (places-kept id s es (sorted_tail nat_cmp e.0 (keys_of es) sorted))
