-- From the ground where a status stands to that at a command of a recording.
use Rattle.std.proofs.Common.{◌≡◌, ℕ, List, Option, Some, None, slice_get, subst, sym, ap, ◌∙◌, suc, ◌+◌, arith}
use Rattle.std.specs.Prelude.{IfSome}
use Rattle.ray_cmd.specs.declared.command.Command.{Command}
use Rattle.ray_cmd.specs.declared.refusal.Refusal.{Refusal}
use Rattle.ray_rules.specs.Hazards.{status_at}
use Rattle.ray_rules.specs.Status.{Status}
use Rattle.ray_grounds.specs.declared.grounds.Ground.{Ground}
use Rattle.ray_grounds.specs.Grounds.{IsGround, IsGroundAt}
use Rattle.ray_grounds.specs.Submits.{last_submit, submit_after}

pub ground_at_command :
    (rec : List Command) (refusal : Refusal) (z : Status) (c : Command) (found : Option Ground)
    → z ≡ status_at rec refusal.command → slice_get rec refusal.command ≡ Some c
    → IfSome found (λ basis. IsGround rec refusal.command z c refusal.rule basis)
    → IfSome found (λ basis. IsGroundAt rec refusal basis)
ground_at_command rec refusal z c None e there is = tt
ground_at_command rec refusal z c (Some basis) e there is =
    record { command = c; there = there; is = subst (λ y. IsGround rec refusal.command y c refusal.rule basis) e is }

-- the last submit once a command more was gone past
pub submit_next :
    (rec : List Command) (k : ℕ) (last next : Option ℕ) (c : Command) → slice_get rec k ≡ Some c
    → last ≡ last_submit rec k → next ≡ submit_after last k (Some c) → next ≡ last_submit rec (k + 1)
submit_next rec k last next c there e f =
    let more : suc k ≡ k + 1 = omega arith in
    f ∙ (ap (λ o. submit_after o k (Some c)) e
    ∙ (ap (submit_after (last_submit rec k) k) (sym there) ∙ ap (last_submit rec) more))
