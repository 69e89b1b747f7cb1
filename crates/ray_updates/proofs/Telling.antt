-- From an update where a status stands to that at a command of a recording.
use Rattle.std.proofs.Common.{◌≡◌, List, Option, Some, None, slice_get, subst}
use Rattle.std.specs.Prelude.{IfSome}
use Rattle.ray_cmd.specs.declared.command.Command.{Command}
use Rattle.ray_cmd.specs.declared.refusal.Refusal.{Refusal}
use Rattle.ray_rules.specs.Hazards.{status_at}
use Rattle.ray_rules.specs.Status.{Status}
use Rattle.ray_updates.specs.declared.change.Update.{Update}
use Rattle.ray_updates.specs.Changes.{IsUpdate, IsUpdateAt}

pub update_at_command :
    (rec : List Command) (refusal : Refusal) (z : Status) (c : Command) (found : Option Update)
    → z ≡ status_at rec refusal.command → slice_get rec refusal.command ≡ Some c
    → IfSome found (λ update. IsUpdate rec z c refusal update)
    → IfSome found (λ update. IsUpdateAt rec refusal update)
update_at_command rec refusal z c None e there is = tt
update_at_command rec refusal z c (Some update) e there is =
    record { command = c; there = there; is = subst (λ y. IsUpdate rec y c refusal update) e is }
