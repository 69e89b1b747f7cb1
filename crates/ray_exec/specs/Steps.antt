-- Words that private contracts cite: one step of a run.
use Rattle.std.specs.Prelude.{ℕ, ◌≡◌, ◌<◌, List, ◌++◌}
use Rattle.ray_bytes.specs.declared.data_rule.DataRule.{DataRule}
use Rattle.ray_cmd.specs.declared.command.Command.{Command}
use Rattle.ray_cmd.specs.declared.place.Place.{Place}
use Rattle.ray_cmd.specs.declared.refusal.Refusal.{Refusal}
use Rattle.ray_cmd.specs.declared.rule.Rule.TheVariants.{X}
use Rattle.ray_action.specs.Memory.{Location, Memory}
use Rattle.ray_action.specs.Action.{Action}
use Rattle.ray_action.specs.Clients.{Clients, Meaning}
use Rattle.ray_action.specs.Outcomes.{Fault, Output, Outcome, Gives, Breaks, outcome_of}
use Rattle.ray_action.specs.Pieces.{command_at}
use Rattle.ray_action.specs.Running.{refusal_by}
use Rattle.ray_action.specs.Storing.{put}
use Rattle.ray_action.specs.Text.{text_of}
use Rattle.ray_device.specs.declared.piece.Piece.{Piece}
use Rattle.ray_device.specs.Pieces.{piece_action}
use Rattle.ray_device.specs.declared.fetch_fault.FetchFault.{FetchFault}
use Rattle.ray_device.specs.declared.fetch_fault.FetchFault.TheVariants as fetches
use Rattle.ray_exec.specs.declared.run_fault.RunFault.{RunFault}
use Rattle.ray_exec.specs.declared.run_fault.RunFault.TheVariants.{Refused, NoMemory}

-- what a piece gives in a memory, by the client of its command
abbrev pub piece_outcome : List Command → Clients → Piece → Memory → Outcome
piece_outcome rec clients piece memory = outcome_of (clients piece.command) (piece_action rec piece) memory

-- the pieces of each command below a number can be fetched, as far as the command tells it
abbrev pub CanEach : (Command → Type 0) → List Command → ℕ → Type 0
CanEach can rec n = (i : ℕ) → i < n → can (command_at rec i)

-- an action gave an output, which is stored
pub record IsStored (meaning : Meaning) (action : Action) (old new : Memory) : Type 0 where
  pub output : Output
  pub gives : outcome_of meaning action old ≡ Gives output
  pub memory : (l : Location) → new l ≡ put action (Gives output) old l

-- the same, and its text is appended
pub record IsShown (meaning : Meaning) (action : Action) (old new : Memory) (text_old text_new : List ℕ) : Type 0 where
  pub output : Output
  pub gives : outcome_of meaning action old ≡ Gives output
  pub memory : (l : Location) → new l ≡ put action (Gives output) old l
  pub text : text_new ≡ text_old ++ text_of action output

-- a refusal names the data rule that an outcome breaks, and where
pub record IsBroken (command : ℕ) (outcome : Outcome) (refusal : Refusal) : Type 0 where
  pub fault : Fault
  pub broken : outcome ≡ Breaks fault
  pub named : refusal ≡ refusal_by command fault

-- why a run stops at a command: a data rule is broken; want of memory has no cause
abbrev pub Stops : ℕ → Outcome → RunFault → Type 0
Stops command outcome (Refused refusal) = IsBroken command outcome refusal
Stops command outcome NoMemory = Unit {0}

-- the refusal of a data rule that a piece of a command breaks
abbrev pub refusal_of : ℕ → DataRule → Place → Refusal
refusal_of command rule place = record { command = command; rule = X rule; place = place }

-- the fault of a run where a piece of a command wasn't fetched
abbrev pub stop_of : ℕ → FetchFault → RunFault
stop_of command (fetches.Data rule place) = Refused (refusal_of command rule place)
stop_of command fetches.NoMemory = NoMemory
