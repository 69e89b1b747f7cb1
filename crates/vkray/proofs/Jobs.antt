-- A task whose run comes to a text tells it along every order that its job permits.
use Rattle.std.proofs.Common.{◌≡◌, ◌≤◌, ℕ, List, length, Option, Some, None, Result, Ok, Err, true, refl, ap, sym, subst, ◌∙◌, arith}
use Rattle.ray_schedule.specs.Events.{Event}
use Rattle.ray_schedule.specs.Laws.{MayRun, after}
use Rattle.ray_cmd.specs.declared.command.Command.{Command}
use Rattle.ray_cmd.specs.declared.fault.RecordingFault.{RecordingFault}
use Rattle.ray_cmd.specs.declared.fault.RecordingFault.TheVariants as recordings
use Rattle.ray_cmd.specs.declared.refusal.Refusal.{Refusal}
use Rattle.ray_cmd.specs.Json.{json_of}
use Rattle.ray_cmd.specs.Recordings.{recording_in}
use Rattle.ray_cmd.specs.Sources.{AreSourced}
use Rattle.ray_cmd.proofs.Recorded.{recorded as was_recorded}
use Rattle.ray_cmd.proofs.Sourced.{are_sourced}
use Rattle.ray_rules.specs.Order.{barriers}
use Rattle.ray_rules.specs.Verdict.{rule_refusal}
use Rattle.ray_submits.specs.Submits.{QueueCommands}
use Rattle.ray_pipe.specs.Tables.{clients}
use Rattle.ray_inputs.specs.declared.fault.BadInput.{BadInput}
use Rattle.ray_inputs.specs.declared.fault.BadInput.TheVariants as inputs
use Rattle.ray_inputs.specs.Inputs.{TabledCommands, queued_in, tabled_in}
use Rattle.ray_inputs.proofs.Sourced.{queued_sourced, tabled_sourced}
use Rattle.ray_action.specs.Clients.{Clients, scripts}
use Rattle.ray_action.specs.Running as action
use Rattle.ray_action.specs.Running.{Text, Unknown}
use Rattle.ray_ready.specs.Accepted.{refused_from}
use Rattle.ray_ready.specs.Laws.{first_actions}
use Rattle.ray_permitted.specs.Along.{memory_below, run_below}
use Rattle.ray_permitted.specs.Job.{Job, on_one_queue}
use Rattle.ray_permitted.specs.Rules.{IsRunnable}
use Rattle.ray_permitted.specs.Work.{work_of}
use Rattle.ray_permitted.proofs.Fetching.{leave_the_same, runnable_orderly}
use Rattle.ray_permitted.proofs.Refused.{break_no_rule}
use Rattle.ray_permitted.proofs.Runs.{comes_to_the_run, recording_order_is}
use Rattle.ray_permitted.proofs.Separating.{barriers_carry, orders_separate}
use Rattle.vkray.specs.declared.asked.Asked.TheVariants as asked
use Rattle.vkray.specs.declared.request.Request.{Request}
use Rattle.vkray.specs.declared.request.Request.TheVariants.{Input, Generate, RunSelf}
use Rattle.vkray.specs.declared.stop.Stop.{Stop}
use Rattle.vkray.specs.Answer.{answer_of, ending_before, ran, refused, run_with, runs, task_of, told_along, told_in_order, told_of, with_task}
use Rattle.vkray.specs.Headline.{IsToldInEveryOrder}
use Rattle.vkray.specs.Tasks.{Task, queued_task, recorded_task, tabled_task, task_of_read, task_of_recording}
use Rattle.vkray.proofs.QueueJobs.{queue_job_runs}

-- ---- a task that breaks no rule on its commands alone may be run in every order that its job permits

all_below : (rec : List Command) (refusal : Option Refusal) → refusal ≡ None → length rec ≤ refused_from (length rec) refusal
all_below rec refusal none = subst (λ r. length rec ≤ refused_from (length rec) r) (sym none) (omega arith)

-- on one queue
one_queue_runs : (rec : List Command) (clients : Clients) → AreSourced rec → rule_refusal (barriers rec) rec ≡ None → IsRunnable (on_one_queue rec clients) (length rec)
one_queue_runs rec clients sourced none =
    orders_separate (on_one_queue rec clients) (length rec) (barriers_carry rec)
    (break_no_rule rec sourced (barriers rec) clients (length rec) (all_below rec _ none))

recorded_runs : (input : List ℕ) (task : Task) → task_of_recording (recording_in input) ≡ Ok task → task.refusal ≡ None → IsRunnable task.job (length task.job.commands)
recorded_runs input task e none =
    let is = of_read (recording_in input) e in
    subst (λ (t : Task). IsRunnable t.job (length t.job.commands)) is.2
    (one_queue_runs is.0 (scripts is.0)
    (are_sourced (json_of input) (Ok is.0) (was_recorded (json_of input) (Ok is.0) is.1))
    (ap (λ (t : Task). t.refusal) is.2 ∙ none))
  where
    of_read : (read : Result (List Command) RecordingFault) → task_of_recording read ≡ Ok task → (rec : List Command) × (read ≡ Ok rec) × (recorded_task rec ≡ task)
    of_read (Ok rec) e = (rec, refl, cc)
    of_read (Err recordings.NotJson) e = absurd cc
    of_read (Err (recordings.BadShape command)) e = absurd cc
    of_read (Err recordings.NoMemory) e = absurd cc

-- what was read where a task was
of_input : {X : Type 0} (task : X → Task) (read : Result X BadInput) (t : Task) → task_of_read task read ≡ Ok t → (x : X) × (read ≡ Ok x) × (task x ≡ t)
of_input task (Ok x) t e = (x, refl, cc)
of_input task (Err inputs.NotJson) t e = absurd cc
of_input task (Err inputs.BadObject) t e = absurd cc
of_input task (Err (inputs.BadShape command)) t e = absurd cc
of_input task (Err (inputs.BadTable entry)) t e = absurd cc
of_input task (Err (inputs.BadSubmits entry)) t e = absurd cc
of_input task (Err inputs.BadCertificates) t e = absurd cc
of_input task (Err inputs.NoMemory) t e = absurd cc

-- with tables
tabled_runs : (input : List ℕ) (task : Task) → task_of_read tabled_task (tabled_in input) ≡ Ok task → task.refusal ≡ None → IsRunnable task.job (length task.job.commands)
tabled_runs input task e none =
    let is = of_input tabled_task (tabled_in input) task e in
    let t : TabledCommands = is.0 in
    subst (λ (t : Task). IsRunnable t.job (length t.job.commands)) is.2
    (one_queue_runs t.commands (clients t.tables) (tabled_sourced (json_of input) t is.1) (ap (λ (t : Task). t.refusal) is.2 ∙ none))

-- over queues
queued_runs : (input : List ℕ) (task : Task) → task_of_read queued_task (queued_in input) ≡ Ok task → task.refusal ≡ None → IsRunnable task.job (length task.job.commands)
queued_runs input task e none =
    let is = of_input queued_task (queued_in input) task e in
    let q : QueueCommands = is.0 in
    subst (λ (t : Task). IsRunnable t.job (length t.job.commands)) is.2
    (queue_job_runs q (queued_sourced (json_of input) q is.1) (scripts q.commands) (length q.commands)
    (all_below q.commands _ (ap (λ (t : Task). t.refusal) is.2 ∙ none)))

pub task_runs : (request : Request) (input : List ℕ) (task : Task) → runs request ≡ true → task_of request input ≡ Ok task → task.refusal ≡ None
    → IsRunnable task.job (length task.job.commands)
task_runs (Input (asked.Run workers)) input task run e none = recorded_runs input task e none
task_runs (Input asked.Check) input task run e none = absurd cc
task_runs (Input (asked.Queues workers)) input task run e none = queued_runs input task e none
task_runs (Input asked.Groups) input task run e none = tabled_runs input task e none
task_runs (Input asked.Certify) input task run e none = recorded_runs input task e none
task_runs (Input asked.Verify) input task run e none = absurd cc
task_runs (Generate scene) input task run e none = absurd cc
task_runs (RunSelf by) input task run e none = recorded_runs input task e none

-- ---- what is told along an order is what is told in recording order

memory_along : (job : Job) (n : ℕ) (es : List Event) → IsRunnable job n → MayRun (work_of job n) es → (after (work_of job n) es).memory ≡ memory_below job n
memory_along job n es may permitted =
    (λ i l. (leave_the_same job n may).memory es permitted l i) ∙ recording_order_is job n (length (first_actions job.commands n))

along_is : (request : Request) (job : Job) (es : List Event) → IsRunnable job (length job.commands) → MayRun (work_of job (length job.commands)) es
    → told_along request job es ≡ told_in_order request job
along_is request job es may permitted =
    let n : ℕ = length job.commands in
    let run = comes_to_the_run job n es (runnable_orderly job n may) permitted in
    let memory = memory_along job n es may permitted in
    λ i. told_of request job (run i) (memory i)

pub every_order : (request : Request) (job : Job) (text : List ℕ) → IsRunnable job (length job.commands) → told_in_order request job ≡ Ok text → IsToldInEveryOrder request job text
every_order request job text may told es permitted = along_is request job es may permitted ∙ told

-- ---- the task behind a text

pub no_text : (run : action.Run) (refusal : Refusal) (text : List ℕ) → ending_before run (refused refusal) ≡ Ok text → ⊥
no_text (Text t) refusal text e = cc
no_text (action.Refused r) refusal text e = cc
no_text Unknown refusal text e = cc

-- a task breaks no rule on its commands alone, and tells a text in recording order
pub record IsRunTo (request : Request) (job : Job) (text : List ℕ) (refusal : Option Refusal) : Type 0 where
  pub kept : refusal ≡ None
  pub told : told_in_order request job ≡ Ok text

run_to : (request : Request) (job : Job) (refusal : Option Refusal) (text : List ℕ) → run_with request job refusal ≡ Ok text → IsRunTo request job text refusal
run_to request job None text e = record { kept = refl; told = e }
run_to request job (Some refusal) text e = absurd (no_text (run_below job refusal.command) refusal text e)

-- a request has a task, which runs to a text
pub record HasRun (request : Request) (made : Result Task Stop) (text : List ℕ) : Type 0 where
  pub task : Task
  pub is_it : made ≡ Ok task
  pub run : IsRunTo request task.job text task.refusal

has_run : (request : Request) (made : Result Task Stop) (text : List ℕ) → with_task (ran request) made ≡ Ok text → HasRun request made text
has_run request (Ok task) text e = record { task = task; is_it = refl; run = run_to request task.job task.refusal text e }
has_run request (Err stop) text e = absurd cc

pub answered : (request : Request) (input text : List ℕ) → runs request ≡ true → answer_of request input ≡ Ok text → HasRun request (task_of request input) text
unfolding answer_of
answered (Input (asked.Run workers)) input text run e = has_run (Input (asked.Run workers)) (task_of (Input (asked.Run workers)) input) text e
answered (Input asked.Check) input text run e = absurd cc
answered (Input (asked.Queues workers)) input text run e = has_run (Input (asked.Queues workers)) (task_of (Input (asked.Queues workers)) input) text e
answered (Input asked.Groups) input text run e = has_run (Input asked.Groups) (task_of (Input asked.Groups) input) text e
answered (Input asked.Certify) input text run e = has_run (Input asked.Certify) (task_of (Input asked.Certify) input) text e
answered (Input asked.Verify) input text run e = absurd cc
answered (Generate scene) input text run e = absurd cc
answered (RunSelf by) input text run e = has_run (RunSelf by) (task_of (RunSelf by) input) text e
