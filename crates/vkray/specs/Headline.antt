-- What a run that ends well has written: what is told along every order that its job permits. (Own; after
-- "Synchronization and Cache Control" in Vulkan.)
use Rattle.std.specs.Prelude.{ℕ, ◌≡◌, List, length, None, Ok}
use Rattle.ray_schedule.specs.Events.{Event}
use Rattle.ray_schedule.specs.Laws.{MayRun}
use Rattle.ray_permitted.specs.Job.{Job}
use Rattle.ray_permitted.specs.Work.{work_of}
use Rattle.vkray.specs.declared.request.Request.{Request}
use Rattle.vkray.specs.Answer.{task_of, told_along}
use Rattle.vkray.specs.Call.{Writing, IsWritten}
use Rattle.vkray.specs.Tasks.{Task}

-- a text is told along every schedule of a job that is permitted: every list of the fetches and stores of its
-- pieces and of its host commands in which all that belongs to a command stands before all that belongs to
-- another which the job's order puts after it
abbrev pub IsToldInEveryOrder : Request → Job → List ℕ → Type 0
IsToldInEveryOrder request job text =
    (es : List Event) → MayRun (work_of job (length job.commands)) es → told_along request job es ≡ Ok text

-- the input of a request is a task that breaks no rule on its commands alone, and what is told along every
-- permitted schedule of its job was written
pub record IsWrittenOfEveryOrder (request : Request) (input : List ℕ) (writing : Writing) : Type 0 where
  pub task : Task
  pub is_it : task_of request input ≡ Ok task
  pub rules : task.refusal ≡ None
  pub text : List ℕ
  pub every_order : IsToldInEveryOrder request task.job text
  pub written : IsWritten writing text
