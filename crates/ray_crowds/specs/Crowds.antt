-- Of what a command has more than it may, and distances that are out of range: what is told of it is so. (Own.)
use Rattle.std.specs.Prelude.{◌≡◌, List, Some, slice_get}
use Rattle.ray_cmd.specs.declared.command.Command.{Command}
use Rattle.ray_cmd.specs.declared.refusal.Refusal.{Refusal}
use Rattle.ray_cmd.specs.declared.rule.Rule.{Rule}
use Rattle.ray_cmd.specs.declared.rule.Rule.TheVariants.{V}
use Rattle.ray_crowds.specs.Counts.{entries_at, primitives_at, rays_of, structures_with, too_many}
use Rattle.ray_crowds.specs.Rules.{IsOfScript}
use Rattle.ray_crowds.specs.declared.crowd.Crowd.{Crowd}
use Rattle.ray_crowds.specs.declared.crowd.Crowd.TheVariants as crowds
use Rattle.ray_rules.specs.Hazards.{status_at}
use Rattle.ray_rules.specs.Status.{Status}

-- the command has so many, where a status stands, and they are too many; or it has this distance, and
-- it is out of range
abbrev pub IsCrowd : Status → Command → Rule → Crowd → Type 0
IsCrowd z c rule (crowds.Entries spot n) = (rule ≡ V 10) × (too_many (entries_at c spot) ≡ Some n)
IsCrowd z c rule (crowds.Primitives spot n) = (rule ≡ V 10) × (too_many (primitives_at z c spot) ≡ Some n)
IsCrowd z c rule (crowds.Structures n) = (rule ≡ V 10) × (too_many (structures_with z c) ≡ Some n)
IsCrowd z c rule (crowds.Rays n) = (rule ≡ V 10) × (too_many (rays_of c) ≡ Some n)
IsCrowd z c rule (crowds.OfScript wrong) = (rule ≡ V 23) × IsOfScript c wrong

-- the same of the command and the rule of a refusal, where the command stands
pub record IsCrowdAt (rec : List Command) (refusal : Refusal) (crowd : Crowd) : Type 0 where
  pub command : Command
  pub there : slice_get rec refusal.command ≡ Some command
  pub is : IsCrowd (status_at rec refusal.command) command refusal.rule crowd
