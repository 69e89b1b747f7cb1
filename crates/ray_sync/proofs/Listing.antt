-- The list of all hazards, and the first of them.
use Rattle.std.proofs.Common.{◌≡◌, ◌≤◌, ◌<◌, ◌++◌, ℕ, zero, suc, List, [], ◌∷◌, Option, Some, None, length, take, refl, sym, ◌∙◌, ap, subst, arith, inl, inr, nat_lt}
use Rattle.std.specs.List.{cons_option}
use Rattle.std.specs.Prelude.{slice_get}
use Rattle.std.proofs.lemmas.Bool.{cases_Bool}
use Rattle.std.proofs.lemmas.Bool.Decides.{nat_tests}
use Rattle.std.proofs.lemmas.List.{append-nil, append_assoc, length-append, take_all, take_at}
use Rattle.ray_cmd.specs.declared.command.Command.{Command}
use Rattle.ray_cmd.specs.declared.refusal.Refusal.{Refusal}
use Rattle.ray_rules.specs.Order.{Ordering}
use Rattle.ray_rules.specs.Refusals.{or_after}
use Rattle.ray_rules.specs.Verdict.{first_hazard, hazard_of}
use Rattle.ray_sync.specs.Hazards.{hazards_below}

-- the first of two lists, one after the other
first-append : (xs : List Refusal) (o : Option Refusal) → slice_get (xs ++ cons_option o []) 0 ≡ or_after (slice_get xs 0) o
first-append [] None = refl
first-append [] (Some r) = refl
first-append (x ∷ xs) o = refl

-- the first of all is the first
pub first-of-all : (order : Ordering) (rec : List Command) (n : ℕ) → slice_get (hazards_below order rec n) 0 ≡ first_hazard order rec n
first-of-all order rec zero = refl
first-of-all order rec (suc n) =
    first-append (hazards_below order rec n) (hazard_of order rec n)
    ∙ ap (λ o. or_after o (hazard_of order rec n)) (first-of-all order rec n)

-- of one that is taken the first is the first of all
pub first-taken : (xs : List Refusal) → slice_get (take 1 xs) 0 ≡ slice_get xs 0
first-taken [] = refl
first-taken (x ∷ xs) = refl

-- those below a number are the first of those below a later one
pub first-below :
    (order : Ordering) (rec : List Command) (n until : ℕ) → n ≤ until
    → take (length (hazards_below order rec n)) (hazards_below order rec until) ≡ hazards_below order rec n
first-below order rec n until below =
    let rest = rest-below order rec n until below in
    ap (take (length (hazards_below order rec n))) rest.1 ∙ take_at (hazards_below order rec n) rest.0 (length (hazards_below order rec n)) refl
  where
    rest-below : (order : Ordering) (rec : List Command) (n until : ℕ) → n ≤ until
        → (rest : List Refusal) × (hazards_below order rec until ≡ hazards_below order rec n ++ rest)
    rest-below order rec zero zero below = ([], refl)
    rest-below order rec (suc n) zero below = absurd (omega (arith, below))
    rest-below order rec n (suc until) below =
        elim (cases_Bool (nat_lt until n)) [
          | inl t ↦
              let same : suc until ≡ n = grind (arith, nat_tests) in
              subst (λ k. (rest : List Refusal) × (hazards_below order rec (suc until) ≡ hazards_below order rec k ++ rest)) same
              ([], sym (append-nil (hazards_below order rec (suc until))))
          | inr f ↦
              let less : n ≤ until = grind (arith, nat_tests) in
              let before = rest-below order rec n until less in (
                before.0 ++ cons_option (hazard_of order rec until) [],
                ap (λ xs. xs ++ cons_option (hazard_of order rec until) []) before.1
                    ∙ append_assoc (hazards_below order rec n) before.0 (cons_option (hazard_of order rec until) []),
              )
        ]

-- a list that grows by one at most, where there was room
pub few-more :
    (xs : List Refusal) (o : Option Refusal) (ys : List Refusal) (most : ℕ) → ys ≡ xs ++ cons_option o [] → length xs < most → length ys ≤ most
few-more xs None ys most e room = subst (λ zs. length zs ≤ most) (sym (e ∙ append-nil xs)) (omega (arith, room))
few-more xs (Some r) ys most e room =
    subst (λ zs. length zs ≤ most) (sym e) (subst (λ n. n ≤ most) (sym (length-append xs (r ∷ []))) (omega (arith, room)))

-- as many as there may be are the first of all of them
pub all-taken :
    (order : Ordering) (rec : List Command) (n until most : ℕ) → n ≤ until → length (hazards_below order rec n) ≡ most
    → hazards_below order rec n ≡ take most (hazards_below order rec until)
all-taken order rec n until most below full =
    sym (first-below order rec n until below) ∙ ap (λ k. take k (hazards_below order rec until)) full

-- and where there are no more than there may be, they are all
pub few-taken : (xs : List Refusal) (most : ℕ) → length xs ≤ most → xs ≡ take most xs
few-taken xs most few = sym (take_all most xs few)
