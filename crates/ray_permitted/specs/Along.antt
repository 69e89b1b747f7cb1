-- What a schedule comes to. (Own.)
use Rattle.std.specs.Prelude.{ℕ, suc, List, [], ◌∷◌, length, Option, Some, None}
use Rattle.ray_schedule.specs.Events.{Event, Moment, beginning, run}
use Rattle.ray_action.specs.Memory.{Held, Memory, nothing_live}
use Rattle.ray_action.specs.Outcomes.{Outcome}
use Rattle.ray_action.specs.Pieces.{Numbered}
use Rattle.ray_action.specs.Running.{Run, Text, Unknown, memory_before, run_from, then_run}
use Rattle.ray_ready.specs.Laws.{first_actions}
use Rattle.ray_permitted.specs.Job.{Job}
use Rattle.ray_permitted.specs.Work.{device_of}

-- an action of which this outcome was kept, and then a run: nothing that has a meaning where none was
abbrev pub then_kept : Numbered → Option Outcome → Run → Run
then_kept unit None later = Unknown
then_kept unit (Some outcome) later = then_run unit outcome later

-- the outcomes kept of actions, put together in recording order: the text, or the refusal of the first
-- action that breaks a data rule
abbrev pub run_kept : (ℕ → Option Outcome) → List Numbered → Run
run_kept kept [] = Text []
run_kept kept (unit ∷ units) = then_kept unit (kept 0) (run_kept (λ p. kept (suc p)) units)

-- the moment after a schedule of actions of a job, from the memory in which nothing is live
abbrev pub moment_along : Job → List Numbered → List Event → Moment Held Outcome
moment_along job units es = run (device_of job units) es (beginning (device_of job units) nothing_live)

-- what the first n commands of a job come to along a schedule
unfoldable pub run_along : Job → ℕ → List Event → Run
run_along job n es = run_kept (moment_along job (first_actions job.commands n) es).kept (first_actions job.commands n)

-- what they come to in recording order
abbrev pub run_below : Job → ℕ → Run
run_below job n = run_from job.clients nothing_live (first_actions job.commands n)

-- the memory that they leave in recording order
abbrev pub memory_below : Job → ℕ → Memory
memory_below job n = memory_before job.clients (first_actions job.commands n) (length (first_actions job.commands n))
