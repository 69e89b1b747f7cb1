use Rattle.ray_ready.proofs.Sources.{sources_enough}
use Rattle.ray_ready.proofs.laws.sources_are_enough.Goals as goal

pub returns : goal.returns
returns c = sources_enough
