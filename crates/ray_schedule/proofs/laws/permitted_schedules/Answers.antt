use Rattle.ray_schedule.proofs.Whole.{are_permitted}
use Rattle.ray_schedule.proofs.laws.permitted_schedules.Goals as goal

pub returns : goal.returns
returns g c = are_permitted (g.R.Recorded.work c.args.recorded.now) c.requires
