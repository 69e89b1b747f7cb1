use Rattle.ray_queues.proofs.Covering.{queue-covered-is-ordered, queue-waits-order}
use Rattle.ray_queues.proofs.laws.queue_covered_is_ordered.Goals as goal

pub returns-clause-covered : goal.returns-clause-covered
returns-clause-covered c = queue-covered-is-ordered

pub returns-clause-wait : goal.returns-clause-wait
returns-clause-wait c = queue-waits-order
