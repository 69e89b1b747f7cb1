use Rattle.ray_ready.proofs.Scripts.{have_scripts}
use Rattle.ray_ready.proofs.laws.accepted_have_scripts.Goals as goal

pub returns : goal.returns
returns c = have_scripts
