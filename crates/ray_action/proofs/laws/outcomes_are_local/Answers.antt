use Rattle.ray_action.proofs.Local.{outcomes_local}
use Rattle.ray_action.proofs.laws.outcomes_are_local.Goals as goal

pub returns : goal.returns
returns c = outcomes_local
