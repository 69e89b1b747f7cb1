use Rattle.ray_updates.proofs.Telling.{update_at_command}
use Rattle.ray_updates.proofs.finding.update_here.Goals as goal

pub returns : goal.returns
returns c = update_at_command _ _ _ _ _ c.requires.status c.command-command.ensures c.first_update.ensures
