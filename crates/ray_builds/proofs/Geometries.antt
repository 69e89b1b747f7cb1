-- What the first of a list that passes a test is, and when there is one.
use Rattle.std.proofs.Common.{◌≡◌, ℕ, suc, ◌+◌, List, [], ◌∷◌, Option, Some, None, Bool, true, false, ◌||◌, cond, refl, sym, ap, ◌∙◌, length, nat_lt, slice_get, is_some, not, arith}
use Rattle.std.specs.List.{list_any, position, position_or_len}
use Rattle.std.specs.Option.{option_map_or}
use Rattle.std.proofs.lemmas.Grind.{common_steps}
use Rattle.std.proofs.lemmas.List.Quantifiers.{position-Some}
use Rattle.std.proofs.lemmas.Option.{none-some, slice_get-get_or}

-- its number is inside the list where it is found
some_where : (inside : Bool) (k : ℕ) → is_some (cond inside (Some k) None) ≡ inside
some_where true k = refl
some_where false k = refl

passes_next :
    (passes : Bool) (n m : ℕ) (rest : Bool) → nat_lt n m ≡ rest
    → nat_lt (cond (not passes) (1 + n) 0) (suc m) ≡ (passes || rest)
passes_next true n m rest e = grind (arith, common_steps)
passes_next false n m rest e = grind (arith, common_steps)

module _ {X : Type 0} where
  -- it stands at its number, and passes
  pub found_at : (test : X → Bool) (xs : List X) (k : ℕ) → position test xs ≡ Some k → option_map_or test (slice_get xs k) false ≡ true
  found_at test [] k e = absurd (none-some k e)
  found_at test (x ∷ xs) k e =
      let first = position-Some test (x ∷ xs) k x e in
      ap (λ o. option_map_or test o false) (slice_get-get_or (x ∷ xs) k x first.0) ∙ first.1

  inside_where : (test : X → Bool) (xs : List X) → nat_lt (position_or_len test xs) (length xs) ≡ list_any test xs
  inside_where test [] = refl
  inside_where test (x ∷ xs) =
      passes_next (test x) (position_or_len test xs) (length xs) (list_any test xs) (inside_where test xs)

  -- there is one where any passes
  pub found_where_any :
      (test : X → Bool) (xs : List X) (found o : Option ℕ) → found ≡ position test xs → found ≡ o
      → is_some o ≡ list_any test xs
  found_where_any test xs found o at same =
      ap is_some (sym same ∙ at)
      ∙ (some_where (nat_lt (position_or_len test xs) (length xs)) (position_or_len test xs) ∙ inside_where test xs)
