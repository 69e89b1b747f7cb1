use Rattle.ray_schedule.proofs.Whole.{every_schedule_below, are_permitted_below, waves_run_below}
use Rattle.ray_schedule.proofs.Below.{first_fault_below, parts_are_permitted}
use Rattle.ray_schedule.proofs.laws.first_commands.Goals as goal

pub returns : goal.returns
returns g c =
    let work = g.R.Recorded.work c.args.recorded.now in
    record {
      schedules = every_schedule_below work c.requires.local c.requires.ordered;
      permitted = are_permitted_below work c.requires.forward;
      waves = waves_run_below work c.requires.local;
      parts = parts_are_permitted work;
      fault = first_fault_below work;
    }
