use Rattle.ray_ready.proofs.Local.{ready_local}
use Rattle.ray_ready.proofs.laws.readiness_is_local.Goals as goal

pub returns : goal.returns
returns c = ready_local
