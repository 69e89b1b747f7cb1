use Rattle.ray_chains.proofs.OneQueue.{one-queue-has-sets}
use Rattle.ray_chains.proofs.laws.one_queue_has_sets.Goals as goal

pub returns : goal.returns
returns c = one-queue-has-sets
