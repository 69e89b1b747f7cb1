-- What an input asks to be run, or checked. (Own.)
use Rattle.std.specs.Prelude.{List, Option, Result, Ok, Err}
use Rattle.ray_cmd.specs.declared.command.Command.{Command}
use Rattle.ray_cmd.specs.declared.fault.RecordingFault.TheVariants as recordings
use Rattle.ray_cmd.specs.declared.refusal.Refusal.{Refusal}
use Rattle.ray_cmd.specs.Recordings.{Reading}
use Rattle.ray_rules.specs.Order.{barriers}
use Rattle.ray_rules.specs.Verdict.{rule_refusal}
use Rattle.ray_action.specs.Clients.{Clients, scripts}
use Rattle.ray_submits.specs.Submits.{QueueCommands}
use Rattle.ray_queues.specs.QueueOrder.{queue_order}
use Rattle.ray_check.specs.Queues.{queue_rule_refusal}
use Rattle.ray_pipe.specs.Tables.{clients}
use Rattle.ray_inputs.specs.declared.fault.BadInput.{BadInput}
use Rattle.ray_inputs.specs.declared.fault.BadInput.TheVariants as inputs
use Rattle.ray_inputs.specs.Inputs.{CertifiedCommands, TabledCommands}
use Rattle.ray_permitted.specs.Job.{Job, in_order, on_one_queue}
use Rattle.vkray.specs.declared.input_fault.InputFault.TheVariants.{NotJson, BadObject, BadShape, BadSubmits, BadTable, BadCertificates}
use Rattle.vkray.specs.declared.stop.Stop.{Stop}
use Rattle.vkray.specs.declared.stop.Stop.TheVariants as stops

-- a job, and the refusal of its commands by the rules on them alone, where one is broken
pub record Task : Type 0 where
  pub job : Job
  pub refusal : Option Refusal

-- commands on one queue, where these clients decide
abbrev pub task_by : List Command → Clients → Task
task_by rec clients = record { job = on_one_queue rec clients; refusal = rule_refusal (barriers rec) rec }

-- a recording: the scripts of its traces decide
abbrev pub recorded_task : List Command → Task
recorded_task rec = task_by rec (scripts rec)

-- a recording with tables of hit groups: these decide
abbrev pub tabled_task : TabledCommands → Task
tabled_task t = task_by t.commands (clients t.tables)

-- a recording with certificates: its scripts decide
abbrev pub certified_task : CertifiedCommands → Task
certified_task c = recorded_task c.commands

-- a recording that is submitted to queues: in the order over queues its scripts decide
abbrev pub queued_task : QueueCommands → Task
queued_task q = record {
  job = in_order q.commands (scripts q.commands) (queue_order q);
  refusal = queue_rule_refusal q;
}

-- the task of a recording that was read, or why there is none
abbrev pub task_of_recording : Reading → Result Task Stop
task_of_recording (Ok rec) = Ok (recorded_task rec)
task_of_recording (Err recordings.NotJson) = Err (stops.Input NotJson)
task_of_recording (Err (recordings.BadShape command)) = Err (stops.Input (BadShape command))
task_of_recording (Err recordings.NoMemory) = Err stops.NoMemory

-- the task of another input that was read, or why there is none
abbrev pub task_of_read : {X : Type 0} → (X → Task) → Result X BadInput → Result Task Stop
task_of_read task (Ok x) = Ok (task x)
task_of_read task (Err inputs.NotJson) = Err (stops.Input NotJson)
task_of_read task (Err inputs.BadObject) = Err (stops.Input BadObject)
task_of_read task (Err (inputs.BadShape command)) = Err (stops.Input (BadShape command))
task_of_read task (Err (inputs.BadTable entry)) = Err (stops.Input (BadTable entry))
task_of_read task (Err (inputs.BadSubmits entry)) = Err (stops.Input (BadSubmits entry))
task_of_read task (Err inputs.BadCertificates) = Err (stops.Input BadCertificates)
task_of_read task (Err inputs.NoMemory) = Err stops.NoMemory
