-- How many submissions come before each command, counted one after the other.
use Rattle.std.proofs.Common.{◌≡◌, ◌<◌, ◌≤◌, ◌⊎◌, inl, inr, ◌∙◌, ℕ, suc, ◌+◌, List, [], ◌∷◌, ◌++◌, Option, Some, None, length, slice_get, length-append, refl, sym, ap, subst, arith, add-one, get_or, Bool, true, false}
use Rattle.std.specs.Prelude.{nat_lt, slice_index_or}
use Rattle.std.proofs.lemmas.Bool.Decides.{nat_tests}
use Rattle.std.proofs.Math.ListN.{get_or-append}
use Rattle.std.proofs.lemmas.List.{get_or_push}
use Rattle.ray_cmd.specs.declared.command.Command.{Command}
use Rattle.ray_cmd.specs.declared.command.Command.TheVariants as commands
use Rattle.ray_submits.specs.Submits.{count_after, submits_below}

-- numbers are those before each of the first commands, and another that of all these
pub record AreCounted (cs : List Command) (i : ℕ) (below : List ℕ) (all : ℕ) : Type 0 where
  pub many : length below ≡ i
  pub each : (k : ℕ) → k < i → slice_index_or below k 0 ≡ submits_below cs k
  pub total : all ≡ submits_below cs i
  pub few : all ≤ i

pub counted-none : (cs : List Command) → AreCounted cs 0 [] 0
counted-none cs = record { many = refl; each = λ k h. absurd (omega arith); total = refl; few = omega arith }

at-most : (o : Option Command) (count : ℕ) → count_after o count ≤ suc count
at-most None count = omega arith
at-most (Some commands.Submit) count = omega arith
at-most (Some _) count = omega arith

-- one command more
pub counted-more : (cs : List Command) (i : ℕ) (below after : List ℕ) (all next : ℕ) (c : Command)
    → slice_get cs i ≡ Some c → after ≡ below ++ all ∷ [] → next ≡ count_after (Some c) all
    → AreCounted cs i below all → AreCounted cs (i + 1) after next
counted-more cs i below after all next c there pushed counted is = record {
  many = ap length pushed ∙ (length-append below (all ∷ []) ∙ ap (λ n. n + 1) is.many);
  each = λ k h. ap (λ xs. get_or xs k 0) pushed ∙ at k (before k h);
  total = counted ∙ ((λ j. count_after (there' j) (is.total j)) ∙ ap (submits_below cs) (sym (add-one i)));
  few = let most = at-most (Some c) all in let few = is.few in subst (λ n. n ≤ i + 1) (sym counted) (omega arith);
}
  where
    there' : Some c ≡ slice_get cs i
    there' = sym there

    before : (k : ℕ) → k < i + 1 → (k < i) ⊎ (k ≡ i)
    before k h = choose (nat_lt k i) refl
      where
        choose : (b : Bool) → nat_lt k i ≡ b → (k < i) ⊎ (k ≡ i)
        choose true e = inl (grind (arith, nat_tests))
        choose false e = inr (let past : i ≤ k = grind (arith, nat_tests) in omega arith)

    at : (k : ℕ) → (k < i) ⊎ (k ≡ i) → get_or (below ++ all ∷ []) k 0 ≡ submits_below cs k
    at k (inl h) = let many = is.many in get_or-append below (all ∷ []) 0 k (omega arith) ∙ is.each k h
    at k (inr e) = let many = is.many in get_or_push below all 0 k (omega arith) ∙ (is.total ∙ ap (submits_below cs) (sym e))
