-- Words that private contracts cite: how far a run of a job in waves has come.
use Rattle.std.specs.Prelude.{ℕ, ◌≡◌, ◌<◌, List, Option, Some, None, nat_lt, filter, flat_map, length}
use Rattle.std.specs.List.{range_with_len}
use Rattle.ray_schedule.specs.Laws.{outcome_of}
use Rattle.ray_schedule.specs.Progress.{IsDoneTo}
use Rattle.ray_cmd.specs.declared.command.Command.{Command}
use Rattle.ray_cmd.specs.declared.refusal.Refusal.{Refusal}
use Rattle.ray_action.specs.Memory.{Memory}
use Rattle.ray_action.specs.Outcomes.{Fault, Breaks}
use Rattle.ray_action.specs.Running.{action_at, number_at, refusal_by, text_with}
use Rattle.ray_ready.specs.Laws.{first_actions}
use Rattle.ray_permitted.specs.Job.{Job}
use Rattle.ray_permitted.specs.Work.{work_of}
use Rattle.ray_exec.specs.Waves.{wave_at}

-- the wave of action number p
abbrev pub wave_of : List Command → List ℕ → ℕ → ℕ → ℕ
wave_of rec numbers n p = wave_at numbers (number_at (first_actions rec n) p)

-- the text of the actions of some numbers, in recording order
abbrev pub texts : Job → ℕ → List ℕ → List ℕ
texts job n ps = flat_map (λ p. text_with (action_at (first_actions job.commands n) p) (outcome_of (work_of job n) p)) ps

-- the numbers of the actions of the waves below number v
abbrev pub actions_before : List Command → List ℕ → ℕ → ℕ → List ℕ
actions_before rec numbers n v =
    filter (λ p. nat_lt (wave_of rec numbers n p) v) (range_with_len 0 (length (first_actions rec n)))

-- a refusal is that of the action at a bound; where there is none, the bound is the number of all actions, and
-- a text is that of the waves that are done
abbrev pub IsStopAt : Job → List ℕ → ℕ → ℕ → ℕ → List ℕ → Option Refusal → Type 0
IsStopAt job numbers n v bound text None =
    (bound ≡ length (first_actions job.commands n)) × (text ≡ texts job n (actions_before job.commands numbers n v))
IsStopAt job numbers n v bound text (Some refusal) =
    (bound < length (first_actions job.commands n)) × (wave_of job.commands numbers n bound < v)
    × ((fault : Fault)
    × (outcome_of (work_of job n) bound ≡ Breaks fault)
    × (refusal ≡ refusal_by (number_at (first_actions job.commands n) bound) fault))

-- the waves below number v are done, up to the first action that breaks a data rule among them
pub record IsDone (job : Job) (numbers : List ℕ) (n v : ℕ) (memory : Memory) (text : List ℕ) (stop : Option Refusal) : Type 0 where
  pub bound : ℕ
  pub done : IsDoneTo (work_of job n) (wave_of job.commands numbers n) v bound memory
  pub stopped : IsStopAt job numbers n v bound text stop

-- the refusal that was met in a wave is less than one of an earlier wave, which it goes before
abbrev pub least : Option Refusal → Option Refusal → Option Refusal
least None stop = stop
least (Some refusal) stop = Some refusal
