-- Laws on pieces. (Own.)
use Rattle.std.specs.Prelude.{◌≡◌, List, length, true}
use Rattle.ray_cmd.specs.declared.command.Command.{Command}
use Rattle.ray_rules.specs.Status.{Status}
use Rattle.ray_action.specs.Memory.{Memory}
use Rattle.ray_action.specs.Action.{Action, Tracing, TraceRays}
use Rattle.ray_action.specs.Clients.{Meaning}
use Rattle.ray_action.specs.Outcomes.{Output, Gives, outcome_of}
use Rattle.ray_action.specs.Pieces.{actions_of}
use Rattle.ray_action.specs.Readiness.{IsReady}
use Rattle.ray_device.specs.Pieces.{piece_count, is_device}
use Rattle.ray_device.specs.Storing.{IsStorable}
use Rattle.ray_action.specs.Traceable.{IsTraceable}
use Rattle.ray_device.specs.Tracing.{traced}

-- what an action gives where it is ready can be stored there
abbrev pub OutputsAreStorable : Type 0
OutputsAreStorable =
    (meaning : Meaning) (action : Action) (memory : Memory) (output : Output)
    → IsReady action memory → outcome_of meaning action memory ≡ Gives output → IsStorable action output memory

-- a device command has as many pieces as actions
abbrev pub PartsAreActions : Type 0
PartsAreActions =
    (rec : List Command) (z : Status) (command : Command)
    → is_device command ≡ true → length (actions_of rec z command) ≡ piece_count command

-- what a trace gives where it is ready is told by the memory as it is: the structures that it names to be in
-- use aren't asked for
pub record IsFree (meaning : Meaning) (trace : Tracing) (memory : Memory) : Type 0 where
  pub can : IsTraceable memory trace.top trace.rays trace.flags
  pub same : outcome_of meaning (TraceRays trace) memory
      ≡ traced memory trace.top trace.rays trace.first trace.count trace.flags trace.mask meaning

abbrev pub TracesAreFree : Type 0
TracesAreFree =
    (meaning : Meaning) (trace : Tracing) (memory : Memory) → IsReady (TraceRays trace) memory → IsFree meaning trace memory
