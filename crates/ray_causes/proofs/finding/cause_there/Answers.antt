use Rattle.ray_causes.proofs.Telling.{cause_at_command}
use Rattle.ray_causes.proofs.finding.cause_there.Goals as goal

pub returns : goal.returns
returns c = cause_at_command _ _ _ _ _ c.requires.status c.command-command.ensures c.first_cause.ensures
