-- The commands of a job that may be run in every order that the job permits. (Own.)
use Rattle.std.specs.Prelude.{ℕ, ◌<◌}
use Rattle.ray_rules.specs.Refusals.{AreKept}
use Rattle.ray_rules.specs.Verdict.{hazard_table}
use Rattle.ray_ready.specs.Accepted.{IsAccepted}
use Rattle.ray_permitted.specs.Job.{Job, comes_before}
use Rattle.ray_permitted.specs.Separates.{Separates}

-- the first n commands may be run one by one, and keep the rules on hazards among them, in the job's order
pub record BreakNoRule (job : Job) (n : ℕ) : Type 0 where
  pub accepted : IsAccepted job.commands n
  pub hazards : (i : ℕ) → i < n → AreKept (hazard_table job.order job.commands i)

-- the first n commands may be run one by one, and the job's order separates them
pub record IsRunnable (job : Job) (n : ℕ) : Type 0 where
  pub accepted : IsAccepted job.commands n
  pub separates : Separates job.commands n (comes_before job)
