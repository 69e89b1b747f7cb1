-- The work that the first commands of a job ask of a device, in the words of schedules. (Own.)
use Rattle.std.specs.Prelude.{ℕ, List, Bool, true, false, length}
use Rattle.ray_schedule.specs.Units.{Device, Work}
use Rattle.ray_rules.specs.Kinds.{is_by_host}
use Rattle.ray_rules.specs.Order.{kind_at}
use Rattle.ray_action.specs.Memory.{Held, nothing_live}
use Rattle.ray_action.specs.Areas.{cover}
use Rattle.ray_action.specs.Action.{areas_read}
use Rattle.ray_action.specs.Outcomes.{Outcome, Gives, Breaks, Undefined}
use Rattle.ray_action.specs.Pieces.{Numbered}
use Rattle.ray_action.specs.Running.{action_at, number_at, outcome_at}
use Rattle.ray_action.specs.Storing.{left, writes}
use Rattle.ray_ready.specs.Laws.{first_actions}
use Rattle.ray_permitted.specs.Job.{Job, comes_before}

-- whether an outcome stores nothing: a data rule is broken, or there is no meaning
abbrev pub stores_nothing : Outcome → Bool
stores_nothing (Gives output) = false
stores_nothing (Breaks fault) = true
stores_nothing Undefined = true

-- the device whose unit number p is action number p of a list: it reads the areas of the action, and
-- writes, computes and stores what the action does, by the client of its command
abbrev pub device_of : Job → List Numbered → Device Held Outcome
device_of job units = record {
  command = number_at units;
  is_host = λ p. is_by_host (kind_at job.commands (number_at units p));
  reads = λ p. cover (areas_read (action_at units p));
  writes = λ p. writes (action_at units p);
  outcome = λ p. outcome_at job.clients units p;
  is_fault = stores_nothing;
  stored = λ p. left (action_at units p);
}

-- the work of the first n commands of a job: their actions, from the memory in which nothing is live
abbrev pub work_of : Job → ℕ → Work Held Outcome
work_of job n = record {
  device = device_of job (first_actions job.commands n);
  count = length (first_actions job.commands n);
  start = nothing_live;
  before = comes_before job;
}
