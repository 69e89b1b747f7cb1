-- What holds of the schedules of a job. (Own.)
use Rattle.std.specs.Prelude.{ℕ, ◌≡◌, ◌<◌, ◌≤◌, List, Option, Some, None, Bool, true, take, length}
use Rattle.ray_schedule.specs.Conflicts.{AreOrdered, IsForward, IsLocal}
use Rattle.ray_schedule.specs.Events.{Event, Fetches, Stores}
use Rattle.ray_schedule.specs.Faults.{IsFirstFault}
use Rattle.ray_schedule.specs.InTurn.{AreInTurn, MayAsk, moment_of}
use Rattle.ray_schedule.specs.Progress.{AreRising, IsDoneTo}
use Rattle.ray_schedule.specs.Schedules.{StandsAt}
use Rattle.ray_schedule.specs.Waves.{RisesAlong}
use Rattle.ray_schedule.specs.Laws.{MayRun, EverySchedule, ArePermitted, WavesRun, after, before_unit, is_at_fault, outcome_of}
use Rattle.ray_cmd.specs.declared.command.Command.{Command}
use Rattle.ray_rules.specs.Order.{IsLongest, Ordering, barriers}
use Rattle.ray_rules.specs.Verdict.{rule_refusal}
use Rattle.ray_action.specs.Memory.{Memory}
use Rattle.ray_action.specs.Areas.{AgreeOn}
use Rattle.ray_action.specs.Action.{areas_read}
use Rattle.ray_action.specs.Clients.{Clients}
use Rattle.ray_action.specs.Outcomes.{Outcome}
use Rattle.ray_action.specs.Readiness.{IsReady}
use Rattle.ray_action.specs.Running.{action_at, memory_before, run_of}
use Rattle.ray_ready.specs.Accepted.{IsAccepted, refused_from}
use Rattle.ray_ready.specs.Laws.{AreSources, GaveBefore, first_actions}
use Rattle.ray_permitted.specs.Along.{run_along, run_below, run_kept}
use Rattle.ray_permitted.specs.Job.{Job, comes_before, in_order, on_one_queue}
use Rattle.ray_permitted.specs.Rules.{BreakNoRule, IsRunnable}
use Rattle.ray_permitted.specs.Separates.{CarriesOrder, GoesForward, NumbersSeparate}
use Rattle.ray_permitted.specs.Work.{work_of}

-- ---- from the rules to the order

-- what schedules ask of the work of commands in an order: outcomes are told by what is read, conflicting
-- actions are ordered, and the order goes forward
pub record IsOrderly (job : Job) (n : ℕ) : Type 0 where
  pub local : IsLocal (work_of job n).device
  pub ordered : AreOrdered (work_of job n).device (comes_before job) (work_of job n).count
  pub forward : IsForward (work_of job n).device (comes_before job) (work_of job n).count

-- commands that may be run ask for orderly work
abbrev pub RunnableAreOrderly : Type 0
RunnableAreOrderly = (job : Job) (n : ℕ) → IsRunnable job n → IsOrderly job n

-- an order in which what is covered is ordered, and what stands before a wait, separates commands that
-- break no rule
abbrev pub OrdersSeparate : Type 0
OrdersSeparate =
    (job : Job) (n : ℕ) → CarriesOrder job.commands job.order → BreakNoRule job n → IsRunnable job n

-- the order that barriers and waits give is such an order
abbrev pub BarriersCarryOrder : Type 0
BarriersCarryOrder = (rec : List Command) → CarriesOrder rec (barriers rec)

-- every order goes forward among the commands of a job
abbrev pub OrdersGoForward : Type 0
OrdersGoForward = (job : Job) (n : ℕ) → GoesForward n (comes_before job)

-- ---- every permitted schedule

-- every schedule of commands that may be run which the job's order permits comes to the run of recording
-- order: to its text, or to its refusal
abbrev pub SchedulesComeToTheRun : Type 0
SchedulesComeToTheRun =
    (job : Job) (n : ℕ) (es : List Event) → IsRunnable job n → MayRun (work_of job n) es
    → run_along job n es ≡ run_below job n

-- each has the outcomes, the memory and the first fault of recording order
abbrev pub SchedulesLeaveTheSame : Type 0
SchedulesLeaveTheSame = (job : Job) (n : ℕ) → IsRunnable job n → EverySchedule (work_of job n)

-- recording order in the words of schedules is that of the run
abbrev pub RecordingOrderIsTheRun : Type 0
RecordingOrderIsTheRun =
    (job : Job) (n p : ℕ)
    → before_unit (work_of job n) p ≡ memory_before job.clients (first_actions job.commands n) p

-- ---- which schedules are permitted

-- in an order that goes forward recording order is permitted, and so are waves whose numbers rise along
-- the order
abbrev pub SomeArePermitted : Type 0
SomeArePermitted =
    (job : Job) (n : ℕ) → GoesForward n (comes_before job) → ArePermitted (work_of job n)

-- the lengths of the longest chains rise along the order
abbrev pub LongestChainsRise : Type 0
LongestChainsRise =
    (job : Job) (n : ℕ) (longest : ℕ → ℕ)
    → ((i : ℕ) → i < n → IsLongest (comes_before job) i (longest i))
    → RisesAlong (work_of job n).device (comes_before job) (λ p. longest ((work_of job n).device.command p))
    (work_of job n).count

-- they separate commands that may be run
abbrev pub LongestChainsSeparate : Type 0
LongestChainsSeparate =
    (job : Job) (n : ℕ) (longest : ℕ → ℕ) → IsRunnable job n
    → ((i : ℕ) → i < n → IsLongest (comes_before job) i (longest i))
    → NumbersSeparate job.commands n longest

-- ---- at each fetch

-- each fetch along a permitted schedule reads what its action reads in recording order
abbrev pub FetchesReadTheSame : Type 0
FetchesReadTheSame =
    (job : Job) (n : ℕ) (es : List Event) (i p : ℕ) (e : Event)
    → IsRunnable job n → MayRun (work_of job n) es → StandsAt es i e
    → Fetches e p
    → AgreeOn (areas_read (action_at (first_actions job.commands n) p)) (after (work_of job n) (take i es)).memory
    (memory_before job.clients (first_actions job.commands n) p)

-- its action is ready there, where each action before it gives an output in recording order
abbrev pub FetchesAreReady : Type 0
FetchesAreReady =
    (job : Job) (n : ℕ) (es : List Event) (i p : ℕ) (e : Event)
    → IsRunnable job n → MayRun (work_of job n) es → StandsAt es i e
    → Fetches e p → GaveBefore job.clients (first_actions job.commands n) p
    → IsReady (action_at (first_actions job.commands n) p) (after (work_of job n) (take i es)).memory

-- and so it is where only those gave one whose writes it reads, and those whose writes these read, and so
-- on
abbrev pub FetchesAreReadyBySources : Type 0
FetchesAreReadyBySources =
    (job : Job) (n : ℕ) (es : List Event) (i p : ℕ) (e : Event) (among : ℕ → Bool)
    → IsRunnable job n → MayRun (work_of job n) es → StandsAt es i e
    → Fetches e p
    → among p ≡ true → AreSources job.clients (first_actions job.commands n) among p
    → IsReady (action_at (first_actions job.commands n) p) (after (work_of job n) (take i es)).memory

-- each fetch along a permitted schedule
pub record AtEachFetch : Type 0 where
  pub reads : FetchesReadTheSame
  pub ready : FetchesAreReady
  pub sources : FetchesAreReadyBySources

-- ---- at each store

-- each store along a permitted schedule still finds what its action read
abbrev pub StoresFindTheSame : Type 0
StoresFindTheSame =
    (job : Job) (n : ℕ) (es : List Event) (i p : ℕ) (e : Event)
    → IsRunnable job n → MayRun (work_of job n) es → StandsAt es i e
    → Stores e p
    → AgreeOn (areas_read (action_at (first_actions job.commands n) p)) (after (work_of job n) (take i es)).memory
    (memory_before job.clients (first_actions job.commands n) p)

-- so its action is ready there where it was at its fetch
abbrev pub StoresAreReady : Type 0
StoresAreReady =
    (job : Job) (n : ℕ) (es : List Event) (i p : ℕ) (e : Event)
    → IsRunnable job n → MayRun (work_of job n) es → StandsAt es i e
    → Stores e p
    → IsReady (action_at (first_actions job.commands n) p) (memory_before job.clients (first_actions job.commands n) p)
    → IsReady (action_at (first_actions job.commands n) p) (after (work_of job n) (take i es)).memory

-- each store along a permitted schedule
pub record AtEachStore : Type 0 where
  pub reads : StoresFindTheSame
  pub ready : StoresAreReady

-- ---- in turn

-- an action is ready in a memory where the rules but those on hazards are kept, what was done there was done in
-- turn, and it may be asked for: what writes what it reads or writes is stored of the earlier actions, and
-- nothing that writes what it reads of the later ones
abbrev pub ActionsInTurnAreReady : Type 0
ActionsInTurnAreReady =
    (job : Job) (n p : ℕ) (es : List Event) → IsAccepted job.commands n
    → AreInTurn (work_of job n) es → MayAsk (work_of job n) es p
    → IsReady (action_at (first_actions job.commands n) p) (moment_of (work_of job n) es).memory

-- it reads there what it reads in recording order
abbrev pub ActionsInTurnReadTheSame : Type 0
ActionsInTurnReadTheSame =
    (job : Job) (n p : ℕ) (es : List Event) → AreInTurn (work_of job n) es
    → MayAsk (work_of job n) es p
    → AgreeOn (areas_read (action_at (first_actions job.commands n) p)) (moment_of (work_of job n) es).memory
    (memory_before job.clients (first_actions job.commands n) p)

-- ---- in waves

-- a run in waves, up to the first fault, as schedules say it
abbrev pub WavesOfCommandsRun : Type 0
WavesOfCommandsRun = (job : Job) (n : ℕ) → WavesRun (work_of job n)

-- wave numbers that separate commands rise along the conflicts of their actions
abbrev pub NumbersRise : Type 0
NumbersRise =
    (job : Job) (n : ℕ) (number : ℕ → ℕ) → IsAccepted job.commands n → NumbersSeparate job.commands n number
    → AreRising (work_of job n).device (λ p. number ((work_of job n).device.command p)) (work_of job n).count

-- before each wave its actions read what they read in recording order
abbrev pub WavesReadTheSame : Type 0
WavesReadTheSame =
    (job : Job) (n : ℕ) (number : ℕ → ℕ) (v bound p : ℕ) (memory : Memory)
    → AreRising (work_of job n).device number (work_of job n).count
    → IsDoneTo (work_of job n) number v bound memory → p < bound → number p ≡ v
    → AgreeOn (areas_read (action_at (first_actions job.commands n) p)) memory (memory_before job.clients (first_actions job.commands n) p)

-- and are ready there, whatever of the other commands break a data rule
abbrev pub WavesAreReady : Type 0
WavesAreReady =
    (job : Job) (n : ℕ) (number : ℕ → ℕ) (v bound p : ℕ) (memory : Memory)
    → IsAccepted job.commands n
    → AreRising (work_of job n).device number (work_of job n).count
    → IsDoneTo (work_of job n) number v bound memory → p < bound → number p ≡ v
    → IsReady (action_at (first_actions job.commands n) p) memory

-- the outcomes of recording order, up to the first one that stores nothing, tell the run
abbrev pub OutcomesTellTheRun : Type 0
OutcomesTellTheRun =
    (job : Job) (n b : ℕ) (kept : ℕ → Option Outcome)
    → IsFirstFault (is_at_fault (work_of job n)) (work_of job n).count b
    → ((p : ℕ) → p < (work_of job n).count → p ≤ b
    → kept p ≡ Some (outcome_of (work_of job n) p))
    → run_kept kept (first_actions job.commands n) ≡ run_below job n

-- ---- what is refused, and what isn't

-- the first commands of a recording break no rule where none of them is refused, in whichever order, whoever
-- decides
abbrev pub UnrefusedBreakNoRule : List Command → Type 0
UnrefusedBreakNoRule rec =
    (order : Ordering) (clients : Clients) (n : ℕ) → n ≤ refused_from (length rec) (rule_refusal order rec)
    → BreakNoRule (in_order rec clients order) n

-- and every permitted schedule of a whole recording that no rule on the recording alone refuses comes to its
-- run
abbrev pub RecordingComesToItsRun : List Command → Type 0
RecordingComesToItsRun rec =
    (clients : Clients) (es : List Event) → rule_refusal (barriers rec) rec ≡ None
    → MayRun (work_of (on_one_queue rec clients) (length rec)) es
    → run_along (on_one_queue rec clients) (length rec) es ≡ run_of clients rec
