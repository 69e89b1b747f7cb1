-- What the run of the first commands of a job comes to. (Own.)
use Rattle.std.specs.Prelude.{ℕ, ◌≡◌, List, Result, Ok, Err, Vec}
use Rattle.std.specs.declared.alloc.Global.{Global}
use Rattle.ray_action.specs.Memory.{Location, Memory}
use Rattle.ray_action.specs.Running as action
use Rattle.ray_action.specs.Running.{Run, Text}
use Rattle.ray_permitted.specs.Along.{memory_below, run_below}
use Rattle.ray_permitted.specs.Job.{Job}
use Rattle.ray_exec.specs.declared.run_fault.RunFault.{RunFault}
use Rattle.ray_exec.specs.declared.run_fault.RunFault.TheVariants.{Refused, NoMemory}

-- a result is what a run comes to: its text, or the refusal of the first command that breaks a data rule. Want
-- of memory is free
abbrev pub IsRun : Run → Result (Vec ℕ Global) RunFault → Type 0
IsRun run (Ok text) = run ≡ Text text.items
IsRun run (Err (Refused refusal)) = run ≡ action.Refused refusal
IsRun run (Err NoMemory) = Unit {0}

-- the first n commands of a job were run in recording order: they came to this text, and left this memory
pub record IsRunTo (job : Job) (n : ℕ) (memory : Memory) (text : List ℕ) : Type 0 where
  pub run : run_below job n ≡ Text text
  pub left : (l : Location) → memory l ≡ memory_below job n l
