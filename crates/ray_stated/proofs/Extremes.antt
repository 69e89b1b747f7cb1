-- The greatest and the least number that a list gives.
use Rattle.std.proofs.Common.{◌≤◌, ◌^◌, ℕ, List, [], ◌∷◌, min, max, arith}
use Rattle.std.specs.List.{All, fold}
use Rattle.std.proofs.lemmas.List.Elements.{All-nil, All-cons, All-head, All-tail}
use Rattle.ray_stated.specs.Order.{greatest, least}

rises : {X : Type 0} (f : X → ℕ) (a : ℕ) (xs : List X) → a ≤ fold (λ b x. max b (f x)) a xs
rises f a [] = omega arith
rises f a (x ∷ xs) = omega (arith, rises f (max a (f x)) xs)

all_rise : {X : Type 0} (f : X → ℕ) (a : ℕ) (xs : List X) → All (λ x. f x ≤ fold (λ b x. max b (f x)) a xs) xs
all_rise f a [] = All-nil (λ x. f x ≤ a)
all_rise f a (x ∷ xs) =
    All-cons (λ y. f y ≤ fold (λ b x. max b (f x)) (max a (f x)) xs) x xs (omega (arith, rises f (max a (f x)) xs)) (all_rise f (max a (f x)) xs)

no_more : {X : Type 0} (f : X → ℕ) (m a : ℕ) (xs : List X) → a ≤ m → All (λ x. f x ≤ m) xs → fold (λ b x. max b (f x)) a xs ≤ m
no_more f m a [] le all = le
no_more f m a (x ∷ xs) le all =
    no_more f m (max a (f x)) xs (omega (arith, All-head (λ y. f y ≤ m) x xs all)) (All-tail (λ y. f y ≤ m) x xs all)

-- none is greater than the greatest, and that isn't above what none is above
pub greatest-all : {X : Type 0} (f : X → ℕ) (xs : List X) → All (λ x. f x ≤ greatest f xs) xs
greatest-all f xs = all_rise f 0 xs

pub greatest-most : {X : Type 0} (f : X → ℕ) (m : ℕ) (xs : List X) → All (λ x. f x ≤ m) xs → greatest f xs ≤ m
greatest-most f m xs all = no_more f m 0 xs (omega arith) all

falls : {X : Type 0} (f : X → ℕ) (a : ℕ) (xs : List X) → fold (λ b x. min b (f x)) a xs ≤ a
falls f a [] = omega arith
falls f a (x ∷ xs) = omega (arith, falls f (min a (f x)) xs)

all_fall : {X : Type 0} (f : X → ℕ) (a : ℕ) (xs : List X) → All (λ x. fold (λ b x. min b (f x)) a xs ≤ f x) xs
all_fall f a [] = All-nil (λ x. a ≤ f x)
all_fall f a (x ∷ xs) =
    All-cons (λ y. fold (λ b x. min b (f x)) (min a (f x)) xs ≤ f y) x xs (omega (arith, falls f (min a (f x)) xs)) (all_fall f (min a (f x)) xs)

no_less : {X : Type 0} (f : X → ℕ) (m a : ℕ) (xs : List X) → m ≤ a → All (λ x. m ≤ f x) xs → m ≤ fold (λ b x. min b (f x)) a xs
no_less f m a [] le all = le
no_less f m a (x ∷ xs) le all =
    no_less f m (min a (f x)) xs (omega (arith, All-head (λ y. m ≤ f y) x xs all)) (All-tail (λ y. m ≤ f y) x xs all)

-- none is less than the least, and that isn't below what none is below, but for the number with which it begins
pub least-all : {X : Type 0} (f : X → ℕ) (xs : List X) → All (λ x. least f xs ≤ f x) xs
least-all f xs = all_fall f (2 ^ 21) xs

pub least-least : {X : Type 0} (f : X → ℕ) (m : ℕ) (xs : List X) → m ≤ 2 ^ 21 → All (λ x. m ≤ f x) xs → m ≤ least f xs
least-least f m xs le all = no_less f m (2 ^ 21) xs le all

pub least-low : {X : Type 0} (f : X → ℕ) (xs : List X) → least f xs ≤ 2 ^ 21
least-low f xs = falls f (2 ^ 21) xs
