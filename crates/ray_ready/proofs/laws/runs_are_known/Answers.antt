use Rattle.ray_ready.proofs.Recording.{runs_known}
use Rattle.ray_ready.proofs.laws.runs_are_known.Goals as goal

pub returns : goal.returns
returns c = runs_known
