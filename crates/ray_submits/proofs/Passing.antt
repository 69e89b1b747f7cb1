-- The two rules, command after command.
use Rattle.std.proofs.Common.{◌≡◌, ◌<◌, ◌∙◌, inl, inr, arith, ℕ, zero, suc, List, [], ◌∷◌, ◌++◌, Option, Some, None, take, slice_get, append_assoc, append-nil, refl, sym, ap, subst, add-one, ◌+◌}
use Rattle.std.specs.Prelude.{nat_lt}
use Rattle.std.proofs.lemmas.Bool.{cases_Bool, ltb-true}
use Rattle.std.proofs.lemmas.Bool.Decides.{nat_tests}
use Rattle.ray_cmd.specs.declared.command.Command.{Command}
use Rattle.ray_cmd.specs.declared.command.Command.TheVariants as commands
use Rattle.ray_cmd.specs.declared.refusal.Refusal.{Refusal}
use Rattle.ray_rules.specs.Refusals.{or_after}
use Rattle.ray_submits.specs.declared.semaphores.Semaphores.{Semaphores}
use Rattle.ray_submits.specs.declared.submission.Submission.{Submission}
use Rattle.ray_submits.specs.Seen.{AreSeen, signals_if, submission_refusal}
use Rattle.ray_submits.specs.Semaphores.{all_signals, first_semaphore_refusal, semaphore_refusal_of, signals_before, signals_of, submit_at, submitted_by, v33, v34}
use Rattle.ray_submits.specs.Submits.{QueueCommands, count_after, submits_below}

-- the signals of one submission more
signals-more : (submits : List Submission) (k : ℕ)
    → all_signals (take (suc k) submits) ≡ all_signals (take k submits) ++ signals_if (slice_get submits k)
signals-more [] zero = refl
signals-more [] (suc k) = refl
signals-more (s ∷ submits) zero = append-nil (signals_of s)
signals-more (s ∷ submits) (suc k) =
    ap (λ ss. signals_of s ++ ss) (signals-more submits k)
    ∙ sym (append_assoc (signals_of s) (all_signals (take k submits)) (signals_if (slice_get submits k)))

-- of one command more
counted : (o : Option Command) (submits : List Submission) (k : ℕ)
    → all_signals (take (count_after o k) submits)
    ≡ all_signals (take k submits) ++ signals_if (submitted_by o (slice_get submits k))
counted None submits k = sym (append-nil (all_signals (take k submits)))
counted (Some commands.Submit) submits k = signals-more submits k
counted (Some _) submits k = sym (append-nil (all_signals (take k submits)))

pub before-more : (q : QueueCommands) (n : ℕ)
    → signals_before q (suc n) ≡ signals_before q n ++ signals_if (submit_at q n)
before-more q n = counted (slice_get q.commands n) q.submits (submits_below q.commands n)

-- the refusal of a command is that of the submission that it is
by-submission : (q : QueueCommands) (i : ℕ) (o : Option Submission) → submit_at q i ≡ o
    → semaphore_refusal_of q i ≡ submission_refusal i (signals_before q i) o
unfolding v33 v34
by-submission q i None e = rw e refl
by-submission q i (Some s) e = rw e refl

-- no command below number n breaks a rule, and what is kept is so of the signals before it
pub record IsChecked (q : QueueCommands) (n : ℕ) (now : Semaphores) : Type 0 where
  pub none : first_semaphore_refusal q n ≡ None
  pub seen : AreSeen (signals_before q n) now

pub checked-none : (q : QueueCommands) (now : Semaphores) → AreSeen [] now → IsChecked q 0 now
checked-none q now are = record { none = refl; seen = are }

after-none : (o p : Option Refusal) → o ≡ None → or_after o p ≡ p
after-none None p e = refl
after-none (Some r) p e = absurd cc

-- one command more
pub checked-more : (q : QueueCommands) (n : ℕ) (o : Option Submission) (old new : Semaphores) → o ≡ submit_at q n
    → None ≡ submission_refusal n (signals_before q n) o
    → AreSeen (signals_before q n ++ signals_if o) new → IsChecked q n old → IsChecked q (n + 1) new
checked-more q n o old new here kept seen is =
    subst (λ m. IsChecked q m new) (sym (add-one n)) (record {
      none = after-none (first_semaphore_refusal q n) (semaphore_refusal_of q n) is.none ∙ (by-submission q n o (sym here) ∙ sym kept);
      seen = subst (λ ss. AreSeen ss new) (sym (before-more q n ∙ λ i. signals_before q n ++ signals_if (sym here i))) seen;
    })

-- the first refusal, once a command has one
pub first-found : (q : QueueCommands) (n until : ℕ) (r : Refusal) → first_semaphore_refusal q n ≡ None
    → semaphore_refusal_of q n ≡ Some r → n < until → first_semaphore_refusal q until ≡ Some r
first-found q n zero r none found below = absurd (omega (arith, below))
first-found q n (suc until) r none found below =
    elim (cases_Bool (nat_lt n until)) [
      | inl t ↦
          ap (λ o. or_after o (semaphore_refusal_of q until)) (first-found q n until r none found (ltb-true n until t))
      | inr f ↦
          let same : n ≡ until = grind (arith, nat_tests) in
          subst (λ k. or_after (first_semaphore_refusal q k) (semaphore_refusal_of q k) ≡ Some r) same
          (after-none (first_semaphore_refusal q n) (semaphore_refusal_of q n) none ∙ found)
    ]

pub first-of : (q : QueueCommands) (n until : ℕ) (r : Refusal) (o : Option Submission) (now : Semaphores) → o ≡ submit_at q n
    → Some r ≡ submission_refusal n (signals_before q n) o → IsChecked q n now → n < until
    → first_semaphore_refusal q until ≡ Some r
first-of q n until r o now here broken is below =
    first-found q n until r is.none (by-submission q n o (sym here) ∙ sym broken) below
