-- From the limit where a status stands to that at a command of a recording.
use Rattle.std.proofs.Common.{◌≡◌, List, Option, Some, None, slice_get, subst}
use Rattle.std.specs.Prelude.{IfSome}
use Rattle.ray_cmd.specs.declared.command.Command.{Command}
use Rattle.ray_cmd.specs.declared.refusal.Refusal.{Refusal}
use Rattle.ray_rules.specs.Hazards.{status_at}
use Rattle.ray_rules.specs.Status.{Status}
use Rattle.ray_limits.specs.declared.limit.Limit.{Limit}
use Rattle.ray_limits.specs.Limits.{IsLimit, IsLimitAt}

pub limit_at_command :
    (rec : List Command) (refusal : Refusal) (z : Status) (c : Command) (found : Option Limit)
    → z ≡ status_at rec refusal.command → slice_get rec refusal.command ≡ Some c
    → IfSome found (λ limit. IsLimit z c refusal.rule limit)
    → IfSome found (λ limit. IsLimitAt rec refusal limit)
limit_at_command rec refusal z c None e there is = tt
limit_at_command rec refusal z c (Some limit) e there is =
    record { command = c; there = there; is = subst (λ y. IsLimit y c refusal.rule limit) e is }
