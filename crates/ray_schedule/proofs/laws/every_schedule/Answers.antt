use Rattle.ray_schedule.proofs.Whole.{every_schedule}
use Rattle.ray_schedule.proofs.laws.every_schedule.Goals as goal

pub returns : goal.returns
returns g c = every_schedule (g.R.Recorded.work c.args.recorded.now) c.requires.local c.requires.ordered
