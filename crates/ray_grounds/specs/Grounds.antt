-- On which ground a command is refused by a static rule: what is told of it is so. (Own.)
use Rattle.std.specs.Prelude.{ℕ, ◌≡◌, List, Some, true, slice_get}
use Rattle.ray_cmd.specs.declared.command.Command.{Command}
use Rattle.ray_cmd.specs.declared.refusal.Refusal.{Refusal}
use Rattle.ray_cmd.specs.declared.rule.Rule.{Rule}
use Rattle.ray_rules.specs.Hazards.{status_at}
use Rattle.ray_rules.specs.Status.{Status}
use Rattle.ray_grounds.specs.Asking.{asks_wait}
use Rattle.ray_grounds.specs.Facts.{IsFact}
use Rattle.ray_grounds.specs.Origins.{IsOrigin}
use Rattle.ray_grounds.specs.Submits.{last_submit}
use Rattle.ray_grounds.specs.declared.grounds.Ground.{Ground}
use Rattle.ray_grounds.specs.declared.grounds.Ground.TheVariants as grounds

-- what is told of command number i, where a status stands, is so
abbrev pub IsGround : List Command → ℕ → Status → Command → Rule → Ground → Type 0
IsGround rec i z c rule (grounds.Standing fact) = IsFact z c rule fact
IsGround rec i z c rule (grounds.Built origin) = IsOrigin rec z c rule origin
IsGround rec i z c rule (grounds.InFlight submit) =
    (asks_wait rule c ≡ true) × ((z.pending ≡ true) × (last_submit rec i ≡ Some submit))

-- the same of the command and the rule of a refusal, where the command stands
pub record IsGroundAt (rec : List Command) (refusal : Refusal) (basis : Ground) : Type 0 where
  pub command : Command
  pub there : slice_get rec refusal.command ≡ Some command
  pub is : IsGround rec refusal.command (status_at rec refusal.command) command refusal.rule basis
