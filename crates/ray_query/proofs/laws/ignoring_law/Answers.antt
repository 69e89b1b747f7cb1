use Rattle.ray_query.proofs.Playing.{ignoring-opaque}
use Rattle.ray_query.proofs.laws.ignoring_law.Goals as goal

pub returns : goal.returns
returns c = ignoring-opaque
