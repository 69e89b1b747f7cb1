use Rattle.ray_queues.proofs.Passing.{marks-other}
use Rattle.ray_queues.proofs.keeping.signal.Goals as goal

pub returns-in_default : goal.returns-in_default
returns-in_default c = λ q have here z are.
    marks-other q c.args.n c.args.command.now _ c.args.marks.now c.in_default.not-Submit here are
