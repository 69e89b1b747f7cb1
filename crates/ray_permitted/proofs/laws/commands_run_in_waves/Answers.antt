use Rattle.ray_schedule.proofs.Whole.{waves_run}
use Rattle.ray_permitted.specs.Work.{work_of}
use Rattle.ray_permitted.proofs.Fetching.{local_work}
use Rattle.ray_permitted.proofs.Finding.{waves_are_ready, waves_read_the_same}
use Rattle.ray_permitted.proofs.Ordered.{numbers_rise}
use Rattle.ray_permitted.proofs.Runs.{outcomes_tell}
use Rattle.ray_permitted.proofs.laws.commands_run_in_waves.Goals as goal

pub returns : goal.returns
returns c = record {
  waves = λ job n. waves_run (work_of job n) (local_work job n);
  rise = numbers_rise;
  reads = waves_read_the_same;
  ready = waves_are_ready;
  outcomes = outcomes_tell;
}
