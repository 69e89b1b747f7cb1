use Rattle.ray_grounds.proofs.Telling.{ground_at_command}
use Rattle.ray_grounds.proofs.finding.ground_here.Goals as goal

pub returns : goal.returns
returns c = ground_at_command _ _ _ _ _ c.requires.status c.command-command.ensures c.first_ground.ensures
