-- That a recording ends while its command buffer isn't idle. (Own.)
use Rattle.std.specs.Prelude.{◌≡◌, Bool, false, ◌==◌, List, length}
use Rattle.ray_cmd.specs.declared.command.Command.{Command}
use Rattle.ray_cmd.specs.declared.refusal.Refusal.{Refusal}
use Rattle.ray_rules.specs.Hazards.{status_at}
use Rattle.ray_rules.specs.Phases.{is_same_phase}
use Rattle.ray_rules.specs.declared.phase.Phase.{Phase}
use Rattle.ray_rules.specs.declared.phase.Phase.TheVariants.{Idle}

-- this is the state in which the command buffer is at the end, which is refused since it isn't idle
pub record IsUnfinishedAt (rec : List Command) (refusal : Refusal) (found : Phase) : Type 0 where
  pub ends : refusal.command ≡ length rec
  pub is : (status_at rec (length rec)).phase ≡ found
  pub other : is_same_phase Idle found ≡ false

-- whether a refusal is of the end
abbrev pub is_of_end : List Command → Refusal → Bool
is_of_end rec refusal = refusal.command == length rec
