-- From what doesn't fit where a status stands to that at a command of a recording.
use Rattle.std.proofs.Common.{◌≡◌, List, Option, Some, None, slice_get, subst}
use Rattle.std.specs.Prelude.{IfSome}
use Rattle.ray_cmd.specs.declared.command.Command.{Command}
use Rattle.ray_cmd.specs.declared.refusal.Refusal.{Refusal}
use Rattle.ray_rules.specs.Hazards.{status_at}
use Rattle.ray_rules.specs.Status.{Status}
use Rattle.ray_kinds.specs.declared.misfit.Misfit.{Misfit}
use Rattle.ray_kinds.specs.Misfits.{IsMisfit, IsMisfitAt}

pub misfit_at_command :
    (rec : List Command) (refusal : Refusal) (z : Status) (c : Command) (found : Option Misfit)
    → z ≡ status_at rec refusal.command → slice_get rec refusal.command ≡ Some c
    → IfSome found (λ misfit. IsMisfit z c refusal.rule misfit)
    → IfSome found (λ misfit. IsMisfitAt rec refusal misfit)
misfit_at_command rec refusal z c None e there is = tt
misfit_at_command rec refusal z c (Some misfit) e there is =
    record { command = c; there = there; is = subst (λ y. IsMisfit y c refusal.rule misfit) e is }
