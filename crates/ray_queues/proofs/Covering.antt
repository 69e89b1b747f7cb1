-- What is covered over queues is ordered. The steps that act on a thing are those of events in which its
-- barriers reach the structures, and the others are limited to no buffer.
use Rattle.std.proofs.Common.{◌≡◌, ◌∙◌, ℕ, Bool, true, false, List, [], ◌∷◌, ◌++◌, Option, Some, None, refl, sym}
use Rattle.std.specs.Prelude.{◌==◌, ◌||◌, if◌then◌else◌, slice_get}
use Rattle.std.specs.Option.{option_map_or}
use Rattle.ray_chains.specs.declared.access_type.AccessType.{AccessType as ChainAccess}
use Rattle.ray_chains.specs.declared.stage.Stage.{Stage as ChainStage}
use Rattle.ray_chains.specs.Dependencies.{reached}
use Rattle.ray_chains.specs.QueueLaws.{ActsOver, source_of}
use Rattle.ray_chains.specs.Queues.{At, Barrier, Begin, Event, Node, Other, Source, Structures, Submit, TimelinePoint, Visible, Wait, acts_on, acts_on_all, any_access, first_below, is_among, met_by, signal_of, signals_enough, step_of, steps}
use Rattle.ray_chains.specs.Queues as queues
use Rattle.ray_chains.proofs.Covered.{covered-is-ordered, waits-order}
use Rattle.ray_cmd.specs.declared.command.Command.{Command}
use Rattle.ray_cmd.specs.declared.command.Command.TheVariants as commands
use Rattle.ray_rules.specs.declared.access_type.AccessType.{AccessType}
use Rattle.ray_rules.specs.declared.stage.Stage.{Stage}
use Rattle.ray_rules.specs.declared.stage.Stage.TheVariants as stages
use Rattle.ray_rules.specs.Order.{acts_at, is_device, is_wait}
use Rattle.ray_rules.specs.Order as order
use Rattle.ray_rules.specs.Status.{Status, status_at}
use Rattle.ray_submits.specs.declared.submission.Submission.{Submission}
use Rattle.ray_submits.specs.Submits.{QueueCommands, queue_of, submission_at}
use Rattle.ray_sync.specs.Events.{chain_access, chain_stage}
use Rattle.ray_queues.specs.Covering.{QueueCoveredIsOrdered, QueueWaitsOrder}
use Rattle.ray_queues.specs.Events.{event_at, event_of}
use Rattle.ray_queues.specs.QueueOrder.{is_covered_on, queue_order}

-- a barrier that reaches everything, or no buffer
relabelled : Bool → Event → Event
relabelled acts (Barrier queue scopes buffers) = Barrier queue scopes (if acts then None else Some [])
relabelled acts (Begin queue waits) = Begin queue waits
relabelled acts (Submit queue signals) = Submit queue signals
relabelled acts Wait = Wait
relabelled acts Other = Other

enough-same : (wait : TimelinePoint) (b : Bool) (e : Event) → signals_enough wait (relabelled b e) ≡ signals_enough wait e
unfolding relabelled
enough-same wait b (Barrier queue scopes buffers) = refl
enough-same wait b (Begin queue waits) = refl
enough-same wait b (Submit queue signals) = refl
enough-same wait b Wait = refl
enough-same wait b Other = refl

acts-same : (b : Bool) (e : Event) → (acts_on_all e ≡ true → b ≡ true) → acts_on Structures (relabelled b e) ≡ b
unfolding relabelled
acts-same true (Barrier queue scopes buffers) over = refl
acts-same false (Barrier queue scopes buffers) over = refl
acts-same b (Begin queue waits) over = sym (over refl)
acts-same b (Submit queue signals) over = sym (over refl)
acts-same b Wait over = sym (over refl)
acts-same b Other over = sym (over refl)

module _ (events : ℕ → Event) (acts : ℕ → Bool) where
  others : ℕ → Event
  others m = relabelled (acts m) (events m)

  met-same : (n : ℕ) (waits : List TimelinePoint) → met_by others n waits ≡ met_by events n waits
  unfolding others
  met-same n [] = refl
  met-same n (w ∷ waits) = λ i.
      (if w.value == 0 then [] else signal_of (first_below (λ m. enough-same w (acts m) (events m) i) n))
      ++ met-same n waits i

  step-same : (source : Source) (n : ℕ) (b : Bool) (e : Event)
      → step_of others source n (relabelled b e) ≡ step_of events source n e
  unfolding relabelled
  step-same source n b (Barrier queue scopes buffers) = refl
  step-same source n b (Begin queue waits) = λ i. record {
    takes_all = false;
    from = met-same n waits i;
    to = is_among queue queues.is_device any_access;
  }
  step-same source n b (Submit queue signals) = refl
  step-same source n b Wait = refl
  step-same source n b Other = refl

  steps-same : (source : Source) (m : ℕ) → steps others source m ≡ steps events source m
  unfolding others
  steps-same source m = step-same source m (acts m) (events m)

  all-same : ActsOver events acts → (m : ℕ) → acts_on Structures (others m) ≡ acts m
  unfolding others
  all-same over m = acts-same (acts m) (events m) (over m)

  pub covers : ActsOver events acts → (from : ℕ) (stage : ChainStage) (access : ChainAccess) (i j to_queue : ℕ) (to : ChainStage)
      (x : ChainAccess)
      → reached acts (steps events (source_of from stage (Some access))) i j (Visible to_queue to x) ≡ true
      → reached (λ m. true) (steps events (source_of from stage None)) i j (At to_queue to) ≡ true
  covers over from stage access i j to_queue to x h =
      (λ k. reached (λ m. true) (λ m. sym (steps-same (source_of from stage None) m) k) i j (At to_queue to))
      ∙ covered-is-ordered others from stage access Structures i j to_queue to x
      ((λ k. reached (λ m. all-same over m k) (λ m. steps-same (source_of from stage (Some access)) m k) i j
      (Visible to_queue to x)) ∙ h)

-- what acts on everything acts on a thing
over-if :
    (thing : Option ℕ) (z : Status) (s : Option Submission) (o : Option Command)
    → acts_on_all (option_map_or (event_of s) o Other) ≡ true → option_map_or (order.acts_on thing z) o true ≡ true
over-if thing z s None h = refl
over-if thing z s (Some (commands.Barrier src sa dst da None)) h = refl
over-if thing z s (Some (commands.Barrier src sa dst da (Some ids))) h = absurd cc
over-if thing z s (Some commands.Begin) h = refl
over-if thing z s (Some commands.Submit) h = refl
over-if thing z s (Some commands.Wait) h = refl
over-if thing z s (Some _) h = refl

acts-over : (q : QueueCommands) (thing : Option ℕ) → ActsOver (event_at q) (acts_at q.commands thing)
acts-over q thing m h = over-if thing (status_at q.commands m) (submission_at q m) (slice_get q.commands m) h

or-none : (b : Bool) → (b || false) ≡ true → b ≡ true
or-none true h = refl
or-none false h = absurd cc

at-own :
    (q : QueueCommands) (i : ℕ) (stage : Stage) (access : AccessType) (thing : Option ℕ) (j : ℕ) (to : Stage) (x : AccessType)
    → (is_covered_on q i stage access thing j to x (queue_of q j) || false) ≡ true
    → (queue_order q).ordered i stage j to ≡ true
at-own q i stage access thing j to x h =
    covers (event_at q) (acts_at q.commands thing) (acts-over q thing) (queue_of q i) (chain_stage stage) (chain_access access)
    i j (queue_of q j) (chain_stage to) (chain_access x)
    (or-none (is_covered_on q i stage access thing j to x (queue_of q j)) h)

pub queue-covered-is-ordered : QueueCoveredIsOrdered
queue-covered-is-ordered q i stage access thing j stages.Transfer x device h = at-own q i stage access thing j stages.Transfer x h
queue-covered-is-ordered q i stage access thing j stages.Build x device h = at-own q i stage access thing j stages.Build x h
queue-covered-is-ordered q i stage access thing j stages.StructureCopy x device h = at-own q i stage access thing j stages.StructureCopy x h
queue-covered-is-ordered q i stage access thing j stages.Compute x device h = at-own q i stage access thing j stages.Compute x h
queue-covered-is-ordered q i stage access thing j stages.Host x device h = absurd cc

-- ---- waits of the host

wait-if : (s : Option Submission) (o : Option Command) → is_wait o ≡ true → option_map_or (event_of s) o Other ≡ Wait
wait-if s None h = absurd cc
wait-if s (Some commands.Wait) h = refl
wait-if s (Some _) h = absurd cc

device-same : (s : Stage) → is_device s ≡ true → queues.is_device (chain_stage s) ≡ true
device-same stages.Transfer h = refl
device-same stages.Build h = refl
device-same stages.StructureCopy h = refl
device-same stages.Compute h = refl
device-same stages.Host h = absurd cc

pub queue-waits-order : QueueWaitsOrder
queue-waits-order q i w j stage to is before after device =
    waits-order (event_at q) (source_of (queue_of q i) (chain_stage stage) None) i w j (queue_of q j) (chain_stage to)
    (wait-if (submission_at q w) (slice_get q.commands w) is) before after (device-same to device)
