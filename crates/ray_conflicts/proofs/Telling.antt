-- From the conflict within a command to that at a command of a recording.
use Rattle.std.proofs.Common.{◌≡◌, List, Option, Some, None, slice_get}
use Rattle.std.specs.Prelude.{IfSome}
use Rattle.ray_cmd.specs.declared.command.Command.{Command}
use Rattle.ray_cmd.specs.declared.refusal.Refusal.{Refusal}
use Rattle.ray_conflicts.specs.declared.conflict.Conflict.{Conflict}
use Rattle.ray_conflicts.specs.Conflicts.{IsConflict, IsConflictAt}

pub conflict_at_command :
    (rec : List Command) (refusal : Refusal) (c : Command) (found : Option Conflict)
    → slice_get rec refusal.command ≡ Some c → IfSome found (λ conflict. IsConflict c refusal.rule conflict)
    → IfSome found (λ conflict. IsConflictAt rec refusal conflict)
conflict_at_command rec refusal c None there is = tt
conflict_at_command rec refusal c (Some conflict) there is = record { command = c; there = there; is = is }
