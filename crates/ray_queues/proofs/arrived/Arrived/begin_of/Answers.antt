use Rattle.ray_queues.proofs.Moving.{begin-other}
use Rattle.ray_queues.proofs.arrived.Arrived.begin_of.Goals as goal

pub returns-else-queue-at : goal.returns-else-queue-at
returns-else-queue-at c = λ q n is z. begin-other q c.args.at n c.args.queue c.args.numbers c.args.self c.if-queue-at.false is z
