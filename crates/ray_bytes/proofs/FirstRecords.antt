-- The records up to the first that isn't whole: which they are, and how many bytes each has.
use Rattle.std.proofs.Common.{◌≡◌, ℕ, zero, suc, ◌+◌, ◌<◌, List, [], ◌∷◌, length, map, Option, Some, None, slice_index_or, All, refl, ap, ◌∙◌, arith}
use Rattle.std.specs.List.{range_with_len}
use Rattle.std.proofs.lemmas.List.Elements.{All-cons, All-nil}
use Rattle.std.proofs.lemmas.Grind.{common_steps}
use Rattle.ray_bytes.specs.Slices.{record_at, before_missing, AreFirst}

-- where there is none at i, there is nothing
none_first : {X : Type 0} (at : ℕ → Option X) (i n : ℕ) → at i ≡ None → AreFirst (λ k. at (i + k)) n []
none_first at i n none = record {
  within = omega arith;
  each = λ k d lt. absurd (omega arith);
  ends = λ lt. let e : i + 0 ≡ i = omega arith in ap at e ∙ none;
}

-- where there is one at i, it comes first
some_first :
    {X : Type 0} (at : ℕ → Option X) (i n : ℕ) (x : X) (parts : List X) → at i ≡ Some x
    → AreFirst (λ k. at (i + 1 + k)) n parts → AreFirst (λ k. at (i + k)) (suc n) (x ∷ parts)
some_first {X} at i n x parts here rest = record {
  within = let w = rest.within in omega arith;
  each = each;
  ends = λ lt. let e : i + suc (length parts) ≡ i + 1 + length parts = omega arith in ap at e ∙ rest.ends (omega arith);
}
  where
    each : (k : ℕ) (d : X) → k < suc (length parts) → at (i + k) ≡ Some (slice_index_or (x ∷ parts) k d)
    each zero d lt = let e : i + 0 ≡ i = omega arith in ap at e ∙ here
    each (suc k) d lt = let e : i + suc k ≡ i + 1 + k = omega arith in ap at e ∙ rest.each k d (omega arith)

-- one value more in front, whether it is there or missing
first_step :
    {X : Type 0} (at : ℕ → Option X) (i n : ℕ) (r : Option X) (rest : List (Option X)) → at i ≡ r
    → AreFirst (λ k. at (i + 1 + k)) n (before_missing rest)
    → AreFirst (λ k. at (i + k)) (suc n) (before_missing (r ∷ rest))
first_step at i n None rest here others = none_first at i (suc n) here
first_step at i n (Some x) rest here others = some_first at i n x (before_missing rest) here others

-- the values before the first missing one, from place i on
first_from :
    {X : Type 0} (at : ℕ → Option X) (n i : ℕ)
    → AreFirst (λ k. at (i + k)) n (before_missing (map at (range_with_len i n)))
first_from at zero i = record {
  within = omega arith;
  each = λ k d lt. absurd (omega arith);
  ends = λ lt. absurd (omega arith);
}
first_from at (suc n) i =
    first_step at i n (at i) (map at (range_with_len (i + 1) n)) refl (first_from at n (i + 1))

-- and from the first place on
pub first_records :
    {X : Type 0} (at : ℕ → Option X) (count : ℕ)
    → AreFirst at count (before_missing (map at (range_with_len 0 count)))
first_records at count =
    let first = first_from at count 0 in record {
      within = first.within;
      each = λ k d lt. let e : k ≡ 0 + k = omega arith in ap at e ∙ first.each k d lt;
      ends = λ lt. let e : length _ ≡ 0 + length _ = omega arith in ap at e ∙ first.ends lt;
    }

-- one value more in front
all_step :
    {X : Type 0} (P : X → Type 0) (r : Option X) (rest : List (Option X)) → ((x : X) → r ≡ Some x → P x)
    → All P (before_missing rest) → All P (before_missing (r ∷ rest))
all_step P None rest here others = All-nil P
all_step P (Some x) rest here others = All-cons P x (before_missing rest) (here x refl) others

-- what holds of each value that may come holds of all that come
pub All-before_missing :
    {X : Type 0} (P : X → Type 0) (at : ℕ → Option X) → ((k : ℕ) (x : X) → at k ≡ Some x → P x)
    → (n i : ℕ) → All P (before_missing (map at (range_with_len i n)))
All-before_missing P at each zero i = All-nil P
All-before_missing {X} P at each (suc n) i =
    all_step P (at i) (map at (range_with_len (i + 1) n)) (each i) (All-before_missing P at each n (i + 1))

-- a record has as many bytes as its width
pub length-record_at :
    (bytes : List ℕ) (start stride width i : ℕ) (part : List ℕ)
    → record_at bytes start stride width i ≡ Some part → length part ≡ width
length-record_at bytes start stride width i part here = grind (arith, common_steps)
