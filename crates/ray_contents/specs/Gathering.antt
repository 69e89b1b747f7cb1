-- The first fault, else all: what reading a list of elements comes to, where each can be at fault. (Own.)
use Rattle.std.specs.Prelude.{ℕ, zero, suc, ◌≡◌, ◌<◌, ◌++◌, List, [], ◌∷◌, length, Result, Ok, Err, IsOk, Option, Some, None, slice_get}

-- what is gathered so far, and one more
abbrev pub with_next : {X F : Type 0} → Result (List X) F → Result X F → Result (List X) F
with_next (Err fault) next = Err fault
with_next (Ok xs) (Ok x) = Ok (xs ++ x ∷ [])
with_next (Ok xs) (Err fault) = Err fault

-- the first fault among the elements 0, 1 and so on below a count, else all of them in order
unfoldable pub gathered : {X F : Type 0} → (ℕ → Result X F) → ℕ → Result (List X) F
gathered element zero = Ok []
gathered element (suc n) = with_next (gathered element n) (element n)

-- a list is that of all elements below a count, in order: as many, and each is what its number gives
pub record AreAll {X F : Type 0} (element : ℕ → Result X F) (count : ℕ) (xs : List X) : Type 0 where
  pub as_many : length xs ≡ count
  pub each : (k : ℕ) (x : X) → slice_get xs k ≡ Some x → element k ≡ Ok x

-- a fault is that of the first element below a count that has one
pub record IsFirst {X F : Type 0} (element : ℕ → Result X F) (count : ℕ) (fault : F) (k : ℕ) : Type 0 where
  pub within : k < count
  pub is_fault : element k ≡ Err fault
  pub before : (j : ℕ) → j < k → IsOk (element j)

-- a result is all elements below a count, or the fault of the first that has one
abbrev pub IsFirstOrAll : {X F : Type 0} → (ℕ → Result X F) → ℕ → Result (List X) F → Type 0
IsFirstOrAll element count (Ok xs) = AreAll element count xs
IsFirstOrAll element count (Err fault) = (k : ℕ) × IsFirst element count fault k

-- a value, or that there is none; and back
abbrev pub required : {X : Type 0} → Option X → Result X (Unit {0})
required (Some x) = Ok x
required None = Err tt

abbrev pub given : {X : Type 0} → Result X (Unit {0}) → Option X
given (Ok x) = Some x
given (Err missing) = None

-- all values under the numbers below a count, in order; none where one is missing
unfoldable pub all_some : {X : Type 0} → (ℕ → Option X) → ℕ → Option (List X)
all_some value count = given (gathered (λ i. required (value i)) count)
