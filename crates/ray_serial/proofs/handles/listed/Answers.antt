use Rattle.ray_serial.proofs.TopSteps.{IsRising-sorted}
use Rattle.ray_serial.proofs.handles.listed.Goals as goal

pub returns-clause-rising : goal.returns-clause-rising
returns-clause-rising c = IsRising-sorted c.args.noted.now.keys c.iter.ensures.ordered
