use Rattle.ray_queues.proofs.Alone.{one-queue-has-barriers}
use Rattle.ray_queues.proofs.laws.one_queue_has_barriers.Goals as goal

pub returns : goal.returns
returns c = one-queue-has-barriers
