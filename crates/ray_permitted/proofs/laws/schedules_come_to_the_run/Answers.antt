use Rattle.ray_permitted.proofs.Fetching.{leave_the_same, runnable_orderly}
use Rattle.ray_permitted.proofs.Runs.{comes_to_the_run, recording_order_is}
use Rattle.ray_permitted.proofs.laws.schedules_come_to_the_run.Goals as goal

pub returns : goal.returns
returns c = record {
  run = λ job n es runnable permitted. comes_to_the_run job n es (runnable_orderly job n runnable) permitted;
  same = leave_the_same;
  order = recording_order_is;
}
