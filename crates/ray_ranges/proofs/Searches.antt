-- Searches of a list by a test.
use Rattle.std.proofs.Common.{◌≡◌, Bool, true, List, [], ◌∷◌, sym, ◌∙◌, subst, inl, inr}
use Rattle.std.specs.Prelude.{Some}
use Rattle.std.specs.List.{list_any, find}
use Rattle.std.proofs.lemmas.Bool.{or_left, or_right, cases_Bool, cond-true, cond-false}
use Rattle.std.proofs.lemmas.Option.{same_Some}

-- what a search finds passes its test
pub find-passes : {X : Type 0} (test : X → Bool) (xs : List X) (x : X) → find test xs ≡ Some x → test x ≡ true
find-passes test [] x h = cc
find-passes test (y ∷ ys) x h =
    elim (cases_Bool (test y)) [
      | inl here ↦ subst (λ z. test z ≡ true) (same_Some _ _ (sym (cond-true (test y) _ _ here) ∙ h)) here
      | inr other ↦ find-passes test ys x (sym (cond-false (test y) _ _ other) ∙ h)
    ]

-- what a search finds is in the list
pub any-find :
    {X : Type 0} (test wanted : X → Bool) (xs : List X) (x : X) → find test xs ≡ Some x → wanted x ≡ true
    → list_any wanted xs ≡ true
any-find test wanted [] x h w = cc
any-find test wanted (y ∷ ys) x h w =
    elim (cases_Bool (test y)) [
      | inl here ↦
          or_left (wanted y) (list_any wanted ys)
          (subst (λ z. wanted z ≡ true) (sym (same_Some _ _ (sym (cond-true (test y) _ _ here) ∙ h))) w)
      | inr other ↦
          or_right (wanted y) (list_any wanted ys)
          (any-find test wanted ys x (sym (cond-false (test y) _ _ other) ∙ h) w)
    ]
