-- What an input ends with, by what it is asked for: a text, or why there is none, as one function. (Own.)
use Rattle.std.specs.Prelude.{ℕ, List, [], length, Option, Some, None, Result, Ok, Err, Bool, true, false, codes}
use Rattle.ray_schedule.specs.Events.{Event}
use Rattle.ray_schedule.specs.Laws.{after}
use Rattle.ray_cmd.specs.declared.refusal.Refusal.{Refusal}
use Rattle.ray_cmd.specs.Recordings.{recording_in}
use Rattle.ray_inputs.specs.Inputs.{certified_in, queued_in, tabled_in}
use Rattle.ray_action.specs.Memory.{Memory}
use Rattle.ray_action.specs.Running as action
use Rattle.ray_action.specs.Running.{Run, Text, Unknown}
use Rattle.ray_certify.specs.Certified.{certificates_of}
use Rattle.ray_permitted.specs.Along.{memory_below, run_along, run_below}
use Rattle.ray_permitted.specs.Job.{Job}
use Rattle.ray_permitted.specs.Work.{work_of}
use Rattle.vkray.specs.declared.asked.Asked.TheVariants as asked
use Rattle.vkray.specs.declared.input_fault.InputFault.TheVariants.{Refused}
use Rattle.vkray.specs.declared.request.Request.{Request}
use Rattle.vkray.specs.declared.request.Request.TheVariants.{Input, Generate, RunSelf}
use Rattle.vkray.specs.declared.stop.Stop.{Stop}
use Rattle.vkray.specs.declared.stop.Stop.TheVariants as stops
use Rattle.vkray.specs.Counting.{counts_line, last_shown_in}
use Rattle.vkray.specs.Scenes.{text_of_scene}
use Rattle.vkray.specs.Tasks.{Task, certified_task, queued_task, tabled_task, task_of_read, task_of_recording}

-- a text, or why there is none
abbrev pub Ending : Type 0
Ending = Result (List ℕ) Stop

-- the ending of a recording that a command's refusal ends
abbrev pub refused : Refusal → Ending
refused refusal = Err (stops.Input (Refused refusal))

-- ---- the task of a request

-- whether a request runs what its input says
abbrev pub runs : Request → Bool
runs (Input (asked.Run workers)) = true
runs (Input asked.Check) = false
runs (Input (asked.Queues workers)) = true
runs (Input asked.Groups) = true
runs (Input asked.Certify) = true
runs (Input asked.Verify) = false
runs (Generate scene) = false
runs (RunSelf by) = true

-- the task that a request has of the bytes of its input: a recording, one that is submitted to queues, or one
-- with tables of hit groups. The making up of a scene has none
abbrev pub task_of : Request → List ℕ → Result Task Stop
task_of (Input (asked.Run workers)) input = task_of_recording (recording_in input)
task_of (Input asked.Check) input = task_of_recording (recording_in input)
task_of (Input (asked.Queues workers)) input = task_of_read queued_task (queued_in input)
task_of (Input asked.Groups) input = task_of_read tabled_task (tabled_in input)
task_of (Input asked.Certify) input = task_of_recording (recording_in input)
task_of (Input asked.Verify) input = task_of_read certified_task (certified_in input)
task_of (Generate scene) input = Err stops.NoMemory
task_of (RunSelf by) input = task_of_recording (recording_in input)

-- ---- what is told of a run

-- what a run ends with: its text, or the refusal of the first command that breaks a data rule. A run that has
-- no meaning, as none has that is run, tells nothing
abbrev pub ending_of_run : Run → Ending
ending_of_run (Text text) = Ok text
ending_of_run (action.Refused refusal) = refused refusal
ending_of_run Unknown = Err stops.NoMemory

-- a line in place of the text of a run
abbrev pub in_place_of_text : List ℕ → Ending → Ending
in_place_of_text line (Ok text) = Ok line
in_place_of_text line (Err stop) = Err stop

-- what a request tells of a run of its job and of the memory after it: the text, or in its place of a self run the
-- counts of the records that the last command reads, and the certificates of the rays of the job's traces, which are
-- those of recording order
abbrev pub told_of : Request → Job → Run → Memory → Ending
told_of (RunSelf by) job run memory =
    in_place_of_text (counts_line by.scene.rays (last_shown_in memory job.commands)) (ending_of_run run)
told_of (Input asked.Certify) job run memory = in_place_of_text (certificates_of job) (ending_of_run run)
told_of request job run memory = ending_of_run run

-- what it tells along a schedule of all commands, and in recording order
abbrev pub told_along : Request → Job → List Event → Ending
told_along request job es =
    told_of request job (run_along job (length job.commands) es) (after (work_of job (length job.commands)) es).memory

abbrev pub told_in_order : Request → Job → Ending
told_in_order request job =
    told_of request job (run_below job (length job.commands)) (memory_below job (length job.commands))

-- ---- the answer

-- what a run ends with where the commands after those that are run end it, and not their text
abbrev pub ending_before : Run → Ending → Ending
ending_before (Text text) ending = ending
ending_before (action.Refused refusal) ending = refused refusal
ending_before Unknown ending = Err stops.NoMemory

-- what a job ends with of which the rules on commands alone refuse one: the commands below it are run
abbrev pub refused_before : Job → Refusal → Ending
refused_before job refusal = ending_before (run_below job refusal.command) (refused refusal)

-- the run of a job with the refusal of its commands by those rules, where there is one
abbrev pub run_with : Request → Job → Option Refusal → Ending
run_with request job None = told_in_order request job
run_with request job (Some refusal) = refused_before job refusal

abbrev pub ran : Request → Task → Ending
ran request task = run_with request task.job task.refusal

-- what the rules say of a job: `ok`, or the refusal of its commands
abbrev pub refused_or : Option Refusal → Ending → Ending
refused_or None otherwise = otherwise
refused_or (Some refusal) otherwise = refused refusal

abbrev pub checked : Task → Ending
checked task = refused_or task.refusal (Ok (codes "ok\n"))

-- what is done with a task, where there is one
abbrev pub with_task : (Task → Ending) → Result Task Stop → Ending
with_task ending (Ok task) = ending task
with_task ending (Err stop) = Err stop

-- the answer to a request, of the bytes of its input. How many workers there are makes no difference. For `verify` it is what its
-- commands come to; the verdict on its lines comes in place of their text (specs/Judged)
unfoldable pub answer_of : Request → List ℕ → Ending
answer_of (Input (asked.Run workers)) input = with_task (ran (Input (asked.Run workers))) (task_of (Input (asked.Run workers)) input)
answer_of (Input asked.Check) input = with_task checked (task_of (Input asked.Check) input)
answer_of (Input (asked.Queues workers)) input = with_task (ran (Input (asked.Queues workers))) (task_of (Input (asked.Queues workers)) input)
answer_of (Input asked.Groups) input = with_task (ran (Input asked.Groups)) (task_of (Input asked.Groups) input)
answer_of (Input asked.Certify) input = with_task (ran (Input asked.Certify)) (task_of (Input asked.Certify) input)
answer_of (Input asked.Verify) input = with_task (ran (Input asked.Verify)) (task_of (Input asked.Verify) input)
answer_of (Generate scene) input = Ok (text_of_scene scene)
answer_of (RunSelf by) input = with_task (ran (RunSelf by)) (task_of (RunSelf by) input)

-- the input of a request that reads none: the recording of a self run's scene
abbrev pub made_up : Request → List ℕ
made_up (RunSelf by) = text_of_scene by.scene
made_up request = []

-- the input of a request, where the source has these bytes left
abbrev pub input_of : Request → Option (List ℕ) → Option (List ℕ)
input_of (Input what) left = left
input_of request left = Some (made_up request)
