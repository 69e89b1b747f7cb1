-- The list of all answers, once none is left.
use Rattle.std.proofs.Common.{◌≤◌, ℕ, List, [], ◌++◌, length, drop, subst, sym}
use Rattle.std.proofs.lemmas.List.{append-nil}
use Rattle.std.proofs.Math.ListN.{drop_of_length-le}
use Rattle.vkray_cases.specs.declared.judging.Judged.{Judged}
use Rattle.vkray_cases.specs.declared.wanted.Wanted.{Wanted}
use Rattle.vkray_cases.specs.Judged.{AreJudged}

pub all_judged : (input : List ℕ) (ws : List Wanted) (i : ℕ) (all : List Judged) → length ws ≤ i
    → ((js : List Judged) → AreJudged input (drop i ws) js → AreJudged input ws (all ++ js)) → AreJudged input ws all
all_judged input ws i all none_left goes_on =
    let P : List Wanted → Type 0 = λ left. AreJudged input left [] in
    let Q : List Judged → Type 0 = λ js. AreJudged input ws js in
    subst Q (append-nil all) (goes_on [] (subst P (sym (drop_of_length-le ws none_left)) tt))
