-- What the part of a map below a range's end says of the ranges that the range meets.
use Rattle.std.proofs.Common.{◌≡◌, ◌<◌, ℕ, true, false, List, [], ◌∷◌, ◌++◌, refl, sym, ◌∙◌, ap, arith, map, Option}
use Rattle.std.specs.Prelude.{Some, None, IsSome}
use Rattle.std.specs.List.{find}
use Rattle.std.specs.Option.{option_map}
use Rattle.std.specs.BTreeMap.{BTreeMap, get}
use Rattle.std.specs.BTreeMap.Range.{IsRangeOf}
use Rattle.std.specs.declared.ops.Bound.TheVariants.{Excluded, Unbounded}
use Rattle.std.specs.declared.cmp.Ordering.TheVariants.{Less}
use Rattle.std.specs.Ordering.{nat_cmp, is_lt}
use Rattle.std.proofs.lemmas.Bool.{both_ways}
use Rattle.std.proofs.lemmas.Bool.Decides.{nat_tests}
use Rattle.ray_ranges.specs.declared.range.Range.{Range}
use Rattle.ray_ranges.specs.Meeting.{meets, meets_any}
use Rattle.ray_ranges.specs.Apart.{AreApart, begins_at, range_of}
use Rattle.ray_ranges.proofs.Ordered.{find-entries, meets_nothing, meets_last}

less_from : (a b : ℕ) → a < b → nat_cmp a b ≡ Less
less_from a b h = grind (arith, nat_tests)

less_true : (a b : ℕ) → nat_cmp a b ≡ Less → a < b
less_true a b h = grind (arith, nat_tests)

is_lt_from : (a b : ℕ) → a < b → is_lt (nat_cmp a b) ≡ true
is_lt_from a b h = ap is_lt (less_from a b h)

none_from : (o : Option ℕ) → (IsSome o → ⊥) → o ≡ None
none_from None h = refl
none_from (Some x) h = absurd (h refl)

-- the ranges that a map of beginnings and ends holds
abbrev pub ranges_of : BTreeMap ℕ ℕ → List Range
ranges_of m = map range_of m.entries

pub find-get :
    (m : BTreeMap ℕ ℕ) (from : ℕ) (end : Option ℕ) → end ≡ get nat_cmp m from
    → find (begins_at from) (ranges_of m) ≡ option_map (λ e. range_of (from, e)) end
find-get m from end h = find-entries from m.entries ∙ ap (option_map (λ e. range_of (from, e))) (sym h)

pub nothing_below :
    (m : BTreeMap ℕ ℕ) (range : Range) (part : List (ℕ × ℕ))
    → IsRangeOf nat_cmp Unbounded (Excluded range.end) m part → part ≡ []
    → AreApart 0 (ranges_of m) → meets_any (ranges_of m) range ≡ false
nothing_below m range part of empty apart =
    meets_nothing (ranges_of m) range apart (λ k l.
    find-get m k None (sym (of.5 empty k (tt, less_from k range.end l))))

-- the last of the part is a range of the map, and what the range meets is decided by it
pub record IsLast (ranges : List Range) (range last : Range) : Type 0 where
  pub found : find (begins_at last.from) ranges ≡ Some last
  pub decides : meets_any ranges range ≡ meets range last

pub last_below :
    (m : BTreeMap ℕ ℕ) (range : Range) (part rest : List (ℕ × ℕ)) (e : ℕ × ℕ)
    → IsRangeOf nat_cmp Unbounded (Excluded range.end) m part → part ≡ rest ++ e ∷ []
    → AreApart 0 (ranges_of m) → IsLast (ranges_of m) range (range_of e)
last_below m range part rest e of ends apart =
    let found : find (begins_at e.0) (ranges_of m) ≡ Some (range_of e) =
    find-get m e.0 (Some e.1) (sym (of.3 e rest ends).1) in
    record {
      found = found;
      decides = meets_last (ranges_of m) range (range_of e) apart found
          (less_true e.0 range.end (of.3 e rest ends).0.1)
          (λ k below above.
          find-get m k None (sym (none_from (get nat_cmp m k) (λ some.
          both_ways (is_lt (nat_cmp e.0 k)) (of.4 e rest ends k (tt, less_from k range.end below) some)
          (is_lt_from e.0 k above)))));
    }
