use Rattle.ray_queues.proofs.Moving.{barrier-other}
use Rattle.ray_queues.proofs.arrived.Arrived.barrier_of.Goals as goal

pub returns-else-queue-at : goal.returns-else-queue-at
returns-else-queue-at c = λ q is z. barrier-other q c.args.at c.args.n c.args.queue c.args.barrier c.args.self c.if-queue-at.false is z
