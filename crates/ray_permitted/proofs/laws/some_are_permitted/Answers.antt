use Rattle.ray_schedule.proofs.Whole.{are_permitted}
use Rattle.ray_permitted.specs.Work.{work_of}
use Rattle.ray_permitted.proofs.Fetching.{chains_rise, chains_separate}
use Rattle.ray_permitted.proofs.Ordered.{is_forward}
use Rattle.ray_permitted.proofs.Separating.{orders_forward}
use Rattle.ray_permitted.proofs.laws.some_are_permitted.Goals as goal

pub returns : goal.returns
returns c = record {
  permitted = λ job n forward. are_permitted (work_of job n) (is_forward job n forward);
  forward = orders_forward;
  chains = chains_rise;
  separate = chains_separate;
}
