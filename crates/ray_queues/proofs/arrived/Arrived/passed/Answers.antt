use Rattle.ray_queues.proofs.Moving.{passes-other}
use Rattle.ray_queues.proofs.arrived.Arrived.passed.Goals as goal

pub returns-in-Other : goal.returns-in-Other
returns-in-Other c = λ q is z. passes-other q c.args.at c.args.n c.args.event c.args.self c.in-Other.is is z
