-- The run of a recording, in recording order. (Own.)
use Rattle.std.specs.Prelude.{ℕ, zero, suc, List, [], ◌∷◌, ◌++◌, slice_get, unwrap_or}
use Rattle.ray_cmd.specs.declared.command.Command.{Command}
use Rattle.ray_cmd.specs.declared.refusal.Refusal.{Refusal}
use Rattle.ray_cmd.specs.declared.rule.Rule.TheVariants.{X}
use Rattle.ray_action.specs.Memory.{Memory, nothing_live}
use Rattle.ray_action.specs.Action.{Action, Rest}
use Rattle.ray_action.specs.Clients.{Clients}
use Rattle.ray_action.specs.Outcomes.{Fault, Outcome, Gives, Breaks, Undefined, outcome_of}
use Rattle.ray_action.specs.Pieces.{Numbered, actions, numbered}
use Rattle.ray_action.specs.Storing.{after}
use Rattle.ray_action.specs.Text.{text_of}

-- what a run comes to: its text, the refusal of the first command that breaks a data rule, or nothing that
-- has a meaning
pub data Run : Type 0 where
  Text : (text : List ℕ) → Run
  Refused : (refusal : Refusal) → Run
  Unknown : Run

-- the text of an action, before that of those after it
abbrev pub with_text : List ℕ → Run → Run
with_text text (Text later) = Text (text ++ later)
with_text text (Refused refusal) = Refused refusal
with_text text Unknown = Unknown

-- the text of an action with this outcome: what gives nothing has none
abbrev pub text_with : Action → Outcome → List ℕ
text_with action (Gives output) = text_of action output
text_with action (Breaks fault) = []
text_with action Undefined = []

-- a fault of command number i, as the refusal of the recording
abbrev pub refusal_by : ℕ → Fault → Refusal
refusal_by i fault = record { command = i; rule = X fault.rule; place = fault.place }

-- an action with this outcome, and then a run
abbrev pub then_run : Numbered → Outcome → Run → Run
then_run unit (Gives output) later = with_text (text_of unit.action output) later
then_run unit (Breaks fault) later = Refused (refusal_by unit.command fault)
then_run unit Undefined later = Unknown

-- what an action gives in a memory, by the client of its command
abbrev pub unit_outcome : Clients → Numbered → Memory → Outcome
unit_outcome clients unit memory = outcome_of (clients unit.command) unit.action memory

-- the memory after it
abbrev pub unit_after : Clients → Numbered → Memory → Memory
unit_after clients unit memory = after (clients unit.command) unit.action memory

-- the run of the actions that are left, in this memory
abbrev pub run_from : Clients → Memory → List Numbered → Run
run_from clients memory [] = Text []
run_from clients memory (unit ∷ units) =
    then_run unit (unit_outcome clients unit memory) (run_from clients (unit_after clients unit memory) units)

-- the run of a recording, where these clients decide
unfoldable pub run_of : Clients → List Command → Run
run_of clients rec = run_from clients nothing_live (actions rec)

-- ---- by numbers

-- action number p of a list, with its command: one that does nothing where there is none
abbrev pub unit_at : List Numbered → ℕ → Numbered
unit_at units p = unwrap_or (slice_get units p) (numbered 0 Rest)

-- the action alone
abbrev pub action_at : List Numbered → ℕ → Action
action_at units p = (unit_at units p).action

-- the number of the command that it belongs to
abbrev pub number_at : List Numbered → ℕ → ℕ
number_at units p = (unit_at units p).command

-- what it gives in a memory
abbrev pub outcome_at : Clients → List Numbered → ℕ → Memory → Outcome
outcome_at clients units p memory = unit_outcome clients (unit_at units p) memory

-- the memory in which action number p stands: at first nothing is live
abbrev pub memory_before : Clients → List Numbered → ℕ → Memory
memory_before clients units zero = nothing_live
memory_before clients units (suc p) = unit_after clients (unit_at units p) (memory_before clients units p)
