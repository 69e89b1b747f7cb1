use Rattle.ray_ready.proofs.Defined.{defined}
use Rattle.ray_ready.proofs.laws.ready_is_defined.Goals as goal

pub returns : goal.returns
returns c = defined
