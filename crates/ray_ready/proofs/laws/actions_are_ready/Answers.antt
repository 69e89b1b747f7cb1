use Rattle.ray_ready.proofs.Recording.{are_ready}
use Rattle.ray_ready.proofs.laws.actions_are_ready.Goals as goal

pub returns : goal.returns
returns c = are_ready
