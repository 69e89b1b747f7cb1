use Rattle.ray_schedule.proofs.Whole.{waves_run}
use Rattle.ray_schedule.proofs.laws.runs_in_waves.Goals as goal

pub returns : goal.returns
returns g c = waves_run (g.R.Recorded.work c.args.recorded.now) c.requires
