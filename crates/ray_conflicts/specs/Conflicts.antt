-- Which parts of a command conflict: what is told of it is so. (Own.)
use Rattle.std.specs.Prelude.{◌≡◌, List, Some, true, slice_get}
use Rattle.ray_cmd.specs.declared.command.Command.{Command}
use Rattle.ray_cmd.specs.declared.refusal.Refusal.{Refusal}
use Rattle.ray_cmd.specs.declared.rule.Rule.{Rule}
use Rattle.ray_cmd.specs.declared.rule.Rule.TheVariants.{V}
use Rattle.ray_conflicts.specs.Parts.{hits_conflict, infos_conflict, source_conflicts, targets_conflict}
use Rattle.ray_conflicts.specs.declared.conflict.Conflict.{Conflict}
use Rattle.ray_conflicts.specs.declared.conflict.Conflict.TheVariants as conflicts

-- these parts of a command conflict
abbrev pub ArePartsOf : Command → Conflict → Type 0
ArePartsOf c (conflicts.Infos two way) = infos_conflict c two way ≡ true
ArePartsOf c (conflicts.Targets two) = targets_conflict c two ≡ true
ArePartsOf c (conflicts.Source two) = source_conflicts c two ≡ true
ArePartsOf c conflicts.Hits = hits_conflict c ≡ true

-- the same by a rule
abbrev pub IsConflict : Command → Rule → Conflict → Type 0
IsConflict c rule conflict = (rule ≡ V 16) × ArePartsOf c conflict

-- the same of the command and the rule of a refusal
pub record IsConflictAt (rec : List Command) (refusal : Refusal) (conflict : Conflict) : Type 0 where
  pub command : Command
  pub there : slice_get rec refusal.command ≡ Some command
  pub is : IsConflict command refusal.rule conflict
