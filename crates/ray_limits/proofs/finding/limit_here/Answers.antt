use Rattle.ray_limits.proofs.Telling.{limit_at_command}
use Rattle.ray_limits.proofs.finding.limit_here.Goals as goal

pub returns : goal.returns
returns c = limit_at_command _ _ _ _ _ c.requires.status c.command-command.ensures c.first_limit.ensures
