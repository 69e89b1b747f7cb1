use Rattle.ray_conflicts.proofs.Telling.{conflict_at_command}
use Rattle.ray_conflicts.proofs.finding.conflict_here.Goals as goal

pub returns : goal.returns
returns c = conflict_at_command _ _ _ _ c.command-command.ensures c.first_conflict.ensures
