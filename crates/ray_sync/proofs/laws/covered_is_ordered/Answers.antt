use Rattle.ray_sync.proofs.Within.{covered-ordered}
use Rattle.ray_sync.proofs.laws.covered_is_ordered.Goals as goal

pub returns : goal.returns
returns c = covered-ordered
