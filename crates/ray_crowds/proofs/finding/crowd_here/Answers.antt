use Rattle.ray_crowds.proofs.Telling.{crowd_at_command}
use Rattle.ray_crowds.proofs.finding.crowd_here.Goals as goal

pub returns : goal.returns
returns c = crowd_at_command _ _ _ _ _ c.requires.status c.command-command.ensures c.first_crowd.ensures
