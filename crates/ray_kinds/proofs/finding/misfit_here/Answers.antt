use Rattle.ray_kinds.proofs.Telling.{misfit_at_command}
use Rattle.ray_kinds.proofs.finding.misfit_here.Goals as goal

pub returns : goal.returns
returns c = misfit_at_command _ _ _ _ _ c.requires.status c.command-command.ensures c.first_misfit.ensures
