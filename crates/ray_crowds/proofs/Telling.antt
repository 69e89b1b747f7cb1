-- From what there is too much of where a status stands to that at a command of a recording.
use Rattle.std.proofs.Common.{◌≡◌, List, Option, Some, None, slice_get, subst}
use Rattle.std.specs.Prelude.{IfSome}
use Rattle.ray_cmd.specs.declared.command.Command.{Command}
use Rattle.ray_cmd.specs.declared.refusal.Refusal.{Refusal}
use Rattle.ray_rules.specs.Hazards.{status_at}
use Rattle.ray_rules.specs.Status.{Status}
use Rattle.ray_crowds.specs.declared.crowd.Crowd.{Crowd}
use Rattle.ray_crowds.specs.Crowds.{IsCrowd, IsCrowdAt}

pub crowd_at_command :
    (rec : List Command) (refusal : Refusal) (z : Status) (c : Command) (found : Option Crowd)
    → z ≡ status_at rec refusal.command → slice_get rec refusal.command ≡ Some c
    → IfSome found (λ crowd. IsCrowd z c refusal.rule crowd)
    → IfSome found (λ crowd. IsCrowdAt rec refusal crowd)
crowd_at_command rec refusal z c None e there is = tt
crowd_at_command rec refusal z c (Some crowd) e there is =
    record { command = c; there = there; is = subst (λ y. IsCrowd y c refusal.rule crowd) e is }
