-- From the cause where a status stands to that at a command of a recording.
use Rattle.std.proofs.Common.{◌≡◌, ℕ, List, Option, Some, None, slice_get, subst, sym, ap, ◌∙◌, suc, ◌+◌, arith}
use Rattle.std.specs.Prelude.{IfSome}
use Rattle.ray_cmd.specs.declared.command.Command.{Command}
use Rattle.ray_cmd.specs.declared.refusal.Refusal.{Refusal}
use Rattle.ray_rules.specs.Hazards.{after_if, status_at}
use Rattle.ray_rules.specs.Status.{Status, after}
use Rattle.ray_causes.specs.declared.cause.Cause.{Cause}
use Rattle.ray_causes.specs.Causes.{IsCause, IsCauseAt}

pub cause_at_command :
    (rec : List Command) (refusal : Refusal) (z : Status) (c : Command) (found : Option Cause)
    → z ≡ status_at rec refusal.command → slice_get rec refusal.command ≡ Some c
    → IfSome found (λ cause. IsCause z c refusal.rule cause) → IfSome found (λ cause. IsCauseAt rec refusal cause)
cause_at_command rec refusal z c None e there is = tt
cause_at_command rec refusal z c (Some cause) e there is =
    record { command = c; there = there; is = subst (λ y. IsCause y c refusal.rule cause) e is }

pub status_next :
    (rec : List Command) (i : ℕ) (z y : Status) (c : Command) → slice_get rec i ≡ Some c → z ≡ status_at rec i
    → y ≡ after i c z → y ≡ status_at rec (i + 1)
status_next rec i z y c there e f =
    let more : suc i ≡ i + 1 = omega arith in
    f ∙ (ap (after i c) e ∙ (ap (λ o. after_if i o (status_at rec i)) (sym there) ∙ ap (status_at rec) more))
