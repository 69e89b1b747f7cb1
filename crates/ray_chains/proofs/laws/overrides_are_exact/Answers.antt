use Rattle.ray_chains.specs.Queues.{Node}
use Rattle.ray_chains.proofs.Overrides.{overrides-are-exact}
use Rattle.ray_chains.proofs.laws.overrides_are_exact.Goals as goal

pub returns : goal.returns
returns c = overrides-are-exact Node
