-- Greatest numbers, and tests on them.
use Rattle.std.proofs.Common.{◌≡◌, ◌<◌, ◌≤◌, ◌⊎◌, ℕ, Bool, true, false, ◌&&◌, ◌||◌, max, nat_lt, if◌then◌else◌, List, [], ◌∷◌, refl, ◌∙◌, ap, inl, inr, arith}
use Rattle.std.specs.List.{list_any}
use Rattle.std.proofs.lemmas.Bool.{cases_lt}
use Rattle.std.proofs.lemmas.Bool.Decides.{nat_tests}
use Rattle.ray_chains.specs.Dependencies.{IsIn}
use Rattle.ray_chains.specs.Fronts.{greatest_of}

pub lt-max : (i x y : ℕ) → nat_lt i (max x y) ≡ (nat_lt i x || nat_lt i y)
lt-max i x y = grind (arith, nat_tests)

pub lt-zero : (i : ℕ) → nat_lt i 0 ≡ false
lt-zero i = grind (arith, nat_tests)

pub lt-beyond : (i n : ℕ) → n ≤ i → nat_lt i n ≡ false
lt-beyond i n h = grind (arith, nat_tests)

pub below-beyond : (i n : ℕ) → nat_lt i n ≡ false → n ≤ i
below-beyond i n h = grind (arith, nat_tests)

-- a number that stands where a test holds
pub lt-choice : (b : Bool) (i k : ℕ) → nat_lt i (if b then k else 0) ≡ (b && nat_lt i k)
lt-choice true i k = refl
lt-choice false i k = lt-zero i

pub choice-within : (b : Bool) (g n : ℕ) → g ≤ n → (if b then g else 0) ≤ n
choice-within true g n h = h
choice-within false g n h = omega arith

pub choice-true : (b : Bool) (g n : ℕ) → b ≡ true → g ≤ n → g ≤ (if b then n else 0)
choice-true true g n e h = h
choice-true false g n e h = let k : g ≤ 0 = absurd (no e) in k
  where
    no : false ≡ true → ⊥
    no e = cc

pub and-swap : (a b : Bool) → (a && b) ≡ (b && a)
and-swap true true = refl
and-swap true false = refl
and-swap false true = refl
and-swap false false = refl

pub or-false : (a : Bool) → (a || false) ≡ a
or-false true = refl
or-false false = refl

pub and-false : (a : Bool) → (a && false) ≡ false
and-false true = refl
and-false false = refl

-- of two numbers one is at most the other
pub beyond : (a b : ℕ) → (a ≤ b) ⊎ (b < a)
beyond a b = elim (cases_lt b a) [ inl l ↦ inr l | inr g ↦ inl g ]

module _ {X : Type 0} where
  pub lt-greatest : (i : ℕ) (f : X → ℕ) (xs : List X) → nat_lt i (greatest_of f xs) ≡ list_any (λ x. nat_lt i (f x)) xs
  lt-greatest i f [] = lt-zero i
  lt-greatest i f (x ∷ xs) =
      lt-max i (f x) (greatest_of f xs) ∙ ap (λ b. nat_lt i (f x) || b) (lt-greatest i f xs)

  -- each number is at most the greatest
  pub among-greatest : (f : X → ℕ) (xs : List X) (x : X) → IsIn x xs → f x ≤ greatest_of f xs
  among-greatest f [] x i = absurd i
  among-greatest f (y ∷ ys) x (inl e) = let u : f x ≡ f y = ap f e in omega arith
  among-greatest f (y ∷ ys) x (inr i) = let u = among-greatest f ys x i in omega arith

  -- what is at most a number each is at most that
  pub greatest-within :
      (f : X → ℕ) (xs : List X) (b : ℕ) → ((x : X) → IsIn x xs → f x ≤ b) → greatest_of f xs ≤ b
  greatest-within f [] b h = omega arith
  greatest-within f (y ∷ ys) b h =
      let u = h y (inl refl) in
      let v = greatest-within f ys b (λ x i. h x (inr i)) in
      omega arith

  -- the greatest is 0, or that of a member
  pub greatest-is :
      (f : X → ℕ) (xs : List X)
      → (greatest_of f xs ≡ 0) ⊎ ((x : X) × IsIn x xs × (greatest_of f xs ≡ f x))
  greatest-is f [] = inl refl
  greatest-is f (y ∷ ys) =
      elim (beyond (f y) (greatest_of f ys)) [
        | inl l ↦ elim (greatest-is f ys) [
          | inl z ↦ inl (omega arith)
          | inr (x, i, e) ↦ inr (x, inr i, omega arith)
        ]
        | inr g ↦ inr (y, inl refl, omega arith)
      ]
