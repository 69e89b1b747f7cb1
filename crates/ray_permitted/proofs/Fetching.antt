-- What each fetch along a permitted schedule reads, and that its action is ready there.
use Rattle.std.proofs.Common.{◌≡◌, ◌<◌, ◌≤◌, ◌+◌, ℕ, Bool, true, List, Some, sym, ◌∙◌, subst, arith, length, take}
use Rattle.std.specs.Prelude.{slice_get}
use Rattle.ray_schedule.specs.Conflicts.{IsLocal}
use Rattle.ray_schedule.specs.Events.{Event, Fetches, unit_of}
use Rattle.ray_schedule.specs.Schedules.{StandsAt}
use Rattle.ray_schedule.specs.Laws.{EverySchedule, MayRun}
use Rattle.ray_schedule.specs.Laws as laws
use Rattle.ray_schedule.proofs.Permitted.{unit-fetches, unit_below}
use Rattle.ray_schedule.proofs.Whole.{every_schedule}
use Rattle.ray_cmd.specs.declared.command.Command.{Command}
use Rattle.ray_rules.specs.Order.{IsLongest, last_wait, longer}
use Rattle.ray_action.specs.Action.{areas_read}
use Rattle.ray_action.specs.Areas.{cover}
use Rattle.ray_action.specs.Clients.{Clients}
use Rattle.ray_action.specs.Pieces.{Numbered, actions}
use Rattle.ray_action.specs.Readiness.{IsReady}
use Rattle.ray_action.specs.Running.{action_at, memory_before, number_at, outcome_at, unit_at, unit_outcome}
use Rattle.ray_action.specs.Storing.{writes}
use Rattle.ray_action.proofs.Local.{outcomes_local}
use Rattle.ray_ready.specs.Laws.{AreSources, IsGiven, first_actions}
use Rattle.ray_ready.proofs.Local.{ready_local}
use Rattle.ray_ready.proofs.Recording.{are_ready}
use Rattle.ray_ready.specs.Accepted.{IsAccepted}
use Rattle.ray_ready.proofs.Sources.{sources_enough}
use Rattle.ray_permitted.specs.Laws.{AtEachFetch, FetchesAreReady, FetchesAreReadyBySources, FetchesReadTheSame, LongestChainsRise, LongestChainsSeparate, RunnableAreOrderly, SchedulesLeaveTheSame}
use Rattle.ray_permitted.specs.Job.{Job, comes_before}
use Rattle.ray_permitted.specs.Rules.{IsRunnable}
use Rattle.ray_permitted.specs.Work.{device_of, work_of}
use Rattle.ray_permitted.proofs.Truth.{in_front, item_at}
use Rattle.ray_permitted.proofs.Units.{first_of_all, memory_in_front, piece_at, unit_in_front, unit_is}
use Rattle.ray_permitted.proofs.Runs.{memory_is}
use Rattle.ray_permitted.proofs.Waits.{wait_below}
use Rattle.ray_permitted.proofs.Ordered.{are_ordered, is_forward}

-- ---- orderly work

is_local : (job : Job) (units : List Numbered) → IsLocal (device_of job units)
is_local job units p memory other agree = outcomes_local (job.clients (number_at units p)) (action_at units p) memory other agree

pub runnable_orderly : RunnableAreOrderly
runnable_orderly job n runnable = record {
  local = is_local job (first_actions job.commands n);
  ordered = are_ordered job (comes_before job) n runnable.accepted runnable.separates;
  forward = is_forward job n runnable.separates.forward;
}

pub local_work : (job : Job) (n : ℕ) → IsLocal (work_of job n).device
local_work job n = is_local job (first_actions job.commands n)

pub leave_the_same : SchedulesLeaveTheSame
leave_the_same job n runnable =
    let o = runnable_orderly job n runnable in every_schedule (work_of job n) o.local o.ordered

-- ---- what is read

pub fetches_read : FetchesReadTheSame
fetches_read job n es i p e runnable permitted at fetches = λ l reads.
    (leave_the_same job n runnable).fetches es permitted i p e l at fetches reads
    ∙ (λ j. memory_is job (first_actions job.commands n) p j l)

-- ---- the first actions among all

-- all actions are as the first ones, as far as these go
record AreFirst (clients : Clients) (all us : List Numbered) : Type 0 where
  unit : (q : ℕ) → q < length us → unit_at all q ≡ unit_at us q
  memory : (q : ℕ) → q ≤ length us → memory_before clients all q ≡ memory_before clients us q
  item : (q : ℕ) (u : Numbered) → slice_get us q ≡ Some u → slice_get all q ≡ Some u

are_first : (clients : Clients) (rec : List Command) (n : ℕ) → AreFirst clients (actions rec) (first_actions rec n)
are_first clients rec n =
    let us : List Numbered = first_actions rec n in
    let f = first_of_all rec n in
    subst (λ all. AreFirst clients all us) (sym f.1)
    (record {
      unit = λ q less. unit_in_front us f.0 q less;
      memory = λ q upto. memory_in_front clients us f.0 q upto;
      item = λ q u there. in_front us f.0 q u there;
    })

-- ---- readiness

-- the unit of an event is among the first actions
below_count : (job : Job) (n : ℕ) (es : List Event) (i p : ℕ) (e : Event) → MayRun (work_of job n) es → StandsAt es i e → Fetches e p → p < length (first_actions job.commands n)
below_count job n es i p e permitted at fetches =
    let is : unit_of e ≡ p = unit-fetches e p fetches in
    let below : unit_of e < length (first_actions job.commands n) = unit_below (work_of job n).device (work_of job n).count e (permitted.schedule.only i e at) in
    omega (arith, is, below)

-- an action that is ready in recording order is ready where it is fetched
ready_there : (job : Job) (n : ℕ) (es : List Event) (i p : ℕ) (e : Event) → IsRunnable job n → MayRun (work_of job n) es → StandsAt es i e → Fetches e p
    → IsReady (action_at (first_actions job.commands n) p) (memory_before job.clients (first_actions job.commands n) p)
    → IsReady (action_at (first_actions job.commands n) p) (laws.after (work_of job n) (take i es)).memory
ready_there job n es i p e runnable permitted at fetches ready =
    ready_local (action_at (first_actions job.commands n) p) (memory_before job.clients (first_actions job.commands n) p) (laws.after (work_of job n) (take i es)).memory
    (λ l reads. sym (fetches_read job n es i p e runnable permitted at fetches l reads)) ready

-- what is ready among all actions is ready among the first
ready_first : (clients : Clients) (all us : List Numbered) (p : ℕ) (u : Numbered) → AreFirst clients all us → p < length us → slice_get us p ≡ Some u
    → IsReady u.action (memory_before clients all p) → IsReady (action_at us p) (memory_before clients us p)
ready_first clients all us p u first less there ready =
    subst (λ a. IsReady a (memory_before clients us p)) (sym (unit_is us p u there).0)
    (subst (IsReady u.action) (first.memory p (omega (arith, less))) ready)

gave_first : (clients : Clients) (all us : List Numbered) (q : ℕ) → AreFirst clients all us → q < length us
    → IsGiven (outcome_at clients us q (memory_before clients us q)) → IsGiven (outcome_at clients all q (memory_before clients all q))
gave_first clients all us q first less given =
    let unit = first.unit q less in
    let memory = first.memory q (omega (arith, less)) in
    subst IsGiven (sym (λ i. unit_outcome clients (unit i) (memory i))) given

pub fetches_ready : FetchesAreReady
fetches_ready job n es i p e runnable permitted at fetches gave =
    let clients : Clients = job.clients in
    let rec : List Command = job.commands in
    let us : List Numbered = first_actions rec n in
    let less = below_count job n es i p e permitted at fetches in
    let u = item_at us p less in
    let first = are_first clients rec n in
    let piece = piece_at rec n p u.0 u.1 in
    ready_there job n es i p e runnable permitted at fetches
    (ready_first clients (actions rec) us p u.0 first less u.1
    (are_ready clients rec n p u.0 runnable.accepted (first.item p u.0 u.1) piece.1.below
    (λ q before_it. gave_first clients (actions rec) us q first (omega (arith, before_it, less)) (gave q before_it))))

sources_first : (clients : Clients) (all us : List Numbered) (among : ℕ → Bool) (p : ℕ) → AreFirst clients all us → p < length us
    → AreSources clients us among p → AreSources clients all among p
sources_first clients all us among p first less sources = record {
  closed = λ q r l before_it within member w reads.
      sources.closed q r l before_it within member
      (subst (λ (u : Numbered). writes u.action l ≡ true) (first.unit q (omega (arith, before_it, within, less))) w)
      (subst (λ (u : Numbered). cover (areas_read u.action) l ≡ true) (first.unit r (omega (arith, within, less))) reads);
  gave = λ q before_it member. gave_first clients all us q first (omega (arith, before_it, less)) (sources.gave q before_it member);
}

-- an action is ready in recording order where its sources gave outputs
pub ready_by_sources : (clients : Clients) (rec : List Command) (n p : ℕ) (among : ℕ → Bool) → IsAccepted rec n → p < length (first_actions rec n)
    → among p ≡ true → AreSources clients (first_actions rec n) among p
    → IsReady (action_at (first_actions rec n) p) (memory_before clients (first_actions rec n) p)
ready_by_sources clients rec n p among accepted less member sources =
    let us : List Numbered = first_actions rec n in
    let u = item_at us p less in
    let first = are_first clients rec n in
    let piece = piece_at rec n p u.0 u.1 in
    ready_first clients (actions rec) us p u.0 first less u.1
    (sources_enough clients rec n p u.0 among accepted (first.item p u.0 u.1) piece.1.below member
    (sources_first clients (actions rec) us among p first less sources))

pub fetches_ready_by_sources : FetchesAreReadyBySources
fetches_ready_by_sources job n es i p e among runnable permitted at fetches member sources =
    ready_there job n es i p e runnable permitted at fetches
    (ready_by_sources job.clients job.commands n p among runnable.accepted (below_count job n es i p e permitted at fetches) member sources)

pub at_each_fetch : AtEachFetch
at_each_fetch = record { reads = fetches_read; ready = fetches_ready; sources = fetches_ready_by_sources }

-- ---- the longest chains

-- a chain of one command more is longer
one_more : (order : ℕ → ℕ → Bool) (i j v w : ℕ) → IsLongest order i v → IsLongest order j w → order i j ≡ true → v < w
one_more order i j v w here there e =
    let most : v + 1 ≤ w = there.most (v + 1) (longer i j v here.there e) in omega (arith, most)

pub chains_rise : LongestChainsRise
chains_rise job n longest are p q here there e =
    let rec : List Command = job.commands in
    let us : List Numbered = first_actions rec n in
    let u = item_at us p here in
    let v = item_at us q there in
    let first = piece_at rec n p u.0 u.1 in
    let second = piece_at rec n q v.0 v.1 in
    let i : ℕ = (work_of job n).device.command p in
    let j : ℕ = (work_of job n).device.command q in
    one_more (comes_before job) i j (longest i) (longest j)
    (are i (subst (λ k. k < n) (sym (unit_is us p u.0 u.1).1) first.1.below))
    (are j (subst (λ k. k < n) (sym (unit_is us q v.0 v.1).1) second.1.below)) e

pub chains_separate : LongestChainsSeparate
chains_separate job n longest runnable are =
    let rec : List Command = job.commands in
    let order : ℕ → ℕ → Bool = comes_before job in
    let separates = runnable.separates in record {
      host = λ i j less within here.
          one_more order i j (longest i) (longest j) (are i (omega (arith, less, within))) (are j within) (separates.host i j less within here);
      host_waits = λ i j s waited within here there.
          let below : last_wait rec j ≤ j = wait_below rec j in
          one_more order i j (longest i) (longest j) (are i (omega (arith, waited, below, within))) (are j within) (separates.host_waits i j s waited within here there);
      conflicts = λ i j s t less within here there conflict.
          one_more order i j (longest i) (longest j) (are i (omega (arith, less, within))) (are j within) (separates.conflicts i j s t less within here there conflict);
    }
