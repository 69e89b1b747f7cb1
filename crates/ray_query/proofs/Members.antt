-- Membership in a list by recursion, and what holds of each member.
use Rattle.std.specs.List.{flat_map}
use Rattle.std.specs.List.Sorted.{IsPermutation}
use Rattle.std.proofs.lemmas.List.Sorted.{Contains-permutation}
use Rattle.std.proofs.lemmas.List.Sums.{sum_by-append, sum_by-cons}
use Rattle.std.proofs.Common.{ℕ, ◌+◌, sym, sum_by, ◌≡◌, ◌⊎◌, ◌++◌, refl, subst, zero, suc, List, [], ◌∷◌, All, Contains, inl, inr, arith}
use Rattle.std.proofs.lemmas.List.Elements.{All-cons, All-nil}
use Rattle.ray_query.proofs.Orders.{Each}

abbrev pub Member : {X : Type 0} → X → List X → Type 0
Member x [] = ⊥
Member x (y ∷ ys) = (y ≡ x) ⊎ Member x ys

pub Member-from_Contains : {X : Type 0} (xs : List X) (x : X) → Contains xs x → Member x xs
Member-from_Contains [] x (k, below, at) = absurd (omega (arith, below))
Member-from_Contains (y ∷ ys) x (zero, below, at) = inl at
Member-from_Contains (y ∷ ys) x (suc k, below, at) = inr (Member-from_Contains ys x (k, omega (arith, below), at))

one_on : {X : Type 0} (y : X) (ys : List X) (x : X) → Contains ys x → Contains (y ∷ ys) x
one_on y ys x (k, below, at) = (suc k, omega (arith, below), at)

pub Contains-from_Member : {X : Type 0} (xs : List X) (x : X) → Member x xs → Contains xs x
Contains-from_Member [] x m = absurd m
Contains-from_Member (y ∷ ys) x (inl same) = (0, omega arith, same)
Contains-from_Member (y ∷ ys) x (inr m) = one_on y ys x (Contains-from_Member ys x m)

-- of two lists, one after the other
pub Member-append : {X : Type 0} (xs ys : List X) (x : X) → Member x (xs ++ ys) → Member x xs ⊎ Member x ys
Member-append [] ys x m = inr m
Member-append (z ∷ zs) ys x (inl same) = inl (inl same)
Member-append (z ∷ zs) ys x (inr m) = elim (Member-append zs ys x m) [ inl first ↦ inl (inr first) | inr second ↦ inr second ]

pub Member-append_left : {X : Type 0} (xs ys : List X) (x : X) → Member x xs → Member x (xs ++ ys)
Member-append_left [] ys x m = absurd m
Member-append_left (z ∷ zs) ys x (inl same) = inl same
Member-append_left (z ∷ zs) ys x (inr m) = inr (Member-append_left zs ys x m)

pub Member-append_right : {X : Type 0} (xs ys : List X) (x : X) → Member x ys → Member x (xs ++ ys)
Member-append_right [] ys x m = m
Member-append_right (z ∷ zs) ys x m = inr (Member-append_right zs ys x m)

-- what holds of each holds of a member, and back
pub Each-member : {X : Type 0} (P : X → Type 0) (xs : List X) (x : X) → Each P xs → Member x xs → P x
Each-member P [] x each m = absurd m
Each-member P (y ∷ ys) x (first, rest) (inl same) = subst P same first
Each-member P (y ∷ ys) x (first, rest) (inr m) = Each-member P ys x rest m

pub Each-from_members : {X : Type 0} (P : X → Type 0) (xs : List X) → ((x : X) → Member x xs → P x) → Each P xs
Each-from_members P [] h = tt
Each-from_members P (y ∷ ys) h = (h y (inl refl), Each-from_members P ys (λ x m. h x (inr m)))

pub All-from_Each : {X : Type 0} (P : X → Type 0) (xs : List X) → Each P xs → All P xs
All-from_Each P [] each = All-nil P
All-from_Each P (y ∷ ys) (first, rest) = All-cons P y ys first (All-from_Each P ys rest)

-- ---- members of joined lists

pub Member-permuted : {X : Type 0} (xs ys : List X) (x : X) → IsPermutation xs ys → Member x xs → Member x ys
Member-permuted xs ys x moved m = Member-from_Contains ys x (Contains-permutation xs ys x moved (Contains-from_Member xs x m))

module _ {X Y : Type 0} (each : X → List Y) where
  pub Member-flat_map : (xs : List X) (y : Y) → Member y (flat_map each xs) → (x : X) × Member x xs × Member y (each x)
  Member-flat_map [] y m = absurd m
  Member-flat_map (x ∷ xs) y m = by (Member-append (each x) (flat_map each xs) y m) (Member-flat_map xs y)
    where
      by : Member y (each x) ⊎ Member y (flat_map each xs) → (Member y (flat_map each xs) → (z : X) × Member z xs × Member y (each z)) → (z : X) × Member z (x ∷ xs) × Member y (each z)
      by (inl here) rest = (x, inl refl, here)
      by (inr later) rest = let (z, among, there) = rest later in (z, inr among, there)

  pub flat_map-has : (xs : List X) (x : X) (y : Y) → Member x xs → Member y (each x) → Member y (flat_map each xs)
  flat_map-has [] x y among m = absurd among
  flat_map-has (z ∷ zs) x y (inl same) m = Member-append_left (each z) (flat_map each zs) y (subst (λ w. Member y (each w)) (sym same) m)
  flat_map-has (z ∷ zs) x y (inr later) m = Member-append_right (each z) (flat_map each zs) y (flat_map-has zs x y later m)

-- a sum over joined lists is the sum of the lists' sums
pub sum_by-flat_map : {X Y : Type 0} (f : Y → ℕ) (each : X → List Y) (xs : List X) → sum_by f (flat_map each xs) ≡ sum_by (λ x. sum_by f (each x)) xs
sum_by-flat_map f each [] = refl
sum_by-flat_map f each (x ∷ xs) =
    let rest : sum_by f (flat_map each xs) ≡ sum_by (λ y. sum_by f (each y)) xs = sum_by-flat_map f each xs in
    let both : sum_by f (each x ++ flat_map each xs) ≡ sum_by f (each x) + sum_by f (flat_map each xs) = sum_by-append f (each x) (flat_map each xs) in
    let more : sum_by (λ y. sum_by f (each y)) (x ∷ xs) ≡ sum_by f (each x) + sum_by (λ y. sum_by f (each y)) xs = sum_by-cons (λ y. sum_by f (each y)) x xs in
    omega (arith, rest, both, more)
