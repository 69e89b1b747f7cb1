-- Below which numbers commands of each queue are covered and ordered.
use Rattle.std.proofs.Common.{◌≡◌, ◌∙◌, ℕ, Bool, true, false, ◌||◌, nat_lt, Option, Some, None, refl, sym, arith}
use Rattle.std.specs.Prelude.{◌==◌, max, if◌then◌else◌}
use Rattle.std.specs.List.{list_any}
use Rattle.std.proofs.lemmas.Bool.Decides.{nat_tests}
use Rattle.ray_chains.specs.declared.access_type.AccessType.{AccessType as ChainAccess}
use Rattle.ray_chains.specs.declared.stage.Stage.{Stage as ChainStage}
use Rattle.ray_chains.specs.QueueLaws.{source_of}
use Rattle.ray_chains.specs.Queues.{At, Node, Visible, steps}
use Rattle.ray_chains.proofs.Fronts.{fronts-are-exact}
use Rattle.ray_hazards.specs.declared.limits.Accessed.{Accessed}
use Rattle.ray_hazards.specs.declared.limits.PerWay.{PerWay}
use Rattle.ray_hazards.specs.Carrying.{AreWays}
use Rattle.ray_hazards.specs.Counting.{stage_in}
use Rattle.ray_hazards.specs.Lanes.{AreCoveredBelow, AreOrdered, IsCoveredBelow, IsOrderedBelow}
use Rattle.ray_queues.specs.declared.per_queue.PerQueue.{PerQueue}
use Rattle.ray_queues.specs.declared.per_queue.PerStage.{PerStage}
use Rattle.ray_queues.specs.Events.{event_at}
use Rattle.ray_queues.specs.QueueOrder.{is_covered_on, queues_at}
use Rattle.ray_queues.specs.Sources.{ArePerQueue, ArePerStage, number_at, steps_from}
use Rattle.ray_rules.specs.declared.access_type.AccessType.{AccessType}
use Rattle.ray_rules.specs.declared.access_type.AccessType.TheVariants.{TransferWrite, StructureWrite, ShaderWrite}
use Rattle.ray_rules.specs.declared.stage.Stage.{Stage}
use Rattle.ray_rules.specs.declared.stage.Stage.TheVariants.{Transfer, Build, StructureCopy, Compute, Host}
use Rattle.ray_rules.specs.Hazards.{stage_at}
use Rattle.ray_rules.specs.Order.{acts_at, always}
use Rattle.ray_submits.specs.Submits.{QueueCommands, queue_of}
use Rattle.ray_sync.specs.Events.{chain_access, chain_stage}
use Rattle.ray_queue_check.specs.declared.per_source.PerSource.{PerSource}
use Rattle.ray_queue_check.specs.Arriving.{number_shown, number_to}
use Rattle.ray_queue_check.specs.Lanes.{AreAllCovered, AreAllOrdered, from_queue, stage_limits}
use Rattle.ray_queue_check.specs.Numbers.{AreSources}
use Rattle.ray_queue_check.proofs.Moving.{is-number}

-- a command that counts is of the queue
counts-if : (b : Bool) (o : Option Stage) (stage : Stage) → (if b then o else None) ≡ Some stage → b ≡ true
counts-if true o stage e = refl
counts-if false o stage e = absurd cc

pub queue-counts :
    (q : QueueCommands) (from i : ℕ) (stage : Stage) → stage_in (from_queue q from) i ≡ Some stage → queue_of q i ≡ from
queue-counts q from i stage by =
    is-number (queue_of q i) from (counts-if (queue_of q i == from) (stage_at q.commands i) stage by)

-- ---- what is covered at one queue, or at some

covered-on :
    (q : QueueCommands) (from i : ℕ) (stage : Stage) (access : AccessType) (thing : Option ℕ) (n : ℕ) (to : Stage)
    (x : AccessType) (queue : ℕ) → queue_of q i ≡ from
    → is_covered_on q i stage access thing n to x queue
    ≡ nat_lt i (number_to q thing n queue (chain_stage to) (chain_access x) from (chain_stage stage) (chain_access access))
covered-on q from i stage access thing n to x queue of =
    fronts-are-exact Node (acts_at q.commands thing)
    (steps (event_at q) (source_of (queue_of q i) (chain_stage stage) (Some (chain_access access)))) i n
    (Visible queue (chain_stage to) (chain_access x))
    ∙ (λ j. nat_lt i (number_to q thing n queue (chain_stage to) (chain_access x) (of j) (chain_stage stage) (chain_access access)))

or-none : (b : Bool) → (b || false) ≡ b
or-none true = refl
or-none false = refl

lt-any :
    (i a b c d : ℕ)
    → (nat_lt i a || (nat_lt i b || (nat_lt i c || (nat_lt i d || false)))) ≡ nat_lt i (max (max a b) (max c d))
lt-any i a b c d = grind (arith, nat_tests)

-- ---- at the own queue

pub covered-here :
    (q : QueueCommands) (from n queue : ℕ) (accessed : Accessed) (stage : Stage) (access : AccessType) (limit : ℕ)
    → ((f : ℕ → Bool) → list_any f (queues_at queue accessed.stage) ≡ f queue) → queue ≡ queue_of q n
    → number_to q accessed.thing n queue (chain_stage accessed.stage) (chain_access accessed.access) from (chain_stage stage) (chain_access access) ≡ limit
    → IsCoveredBelow (from_queue q from) n accessed stage access limit
covered-here q from n queue accessed stage access limit one at is i by =
    (λ j. list_any (is_covered_on q i stage access accessed.thing n accessed.stage accessed.access) (queues_at (sym at j) accessed.stage))
    ∙ (one (is_covered_on q i stage access accessed.thing n accessed.stage accessed.access)
    ∙ (covered-on q from i stage access accessed.thing n accessed.stage accessed.access queue (queue-counts q from i stage by)
    ∙ (λ j. nat_lt i (is j))))

-- ---- where the host reads

pub covered-shown :
    (q : QueueCommands) (from n : ℕ) (accessed : Accessed) (stage : Stage) (access : AccessType) (limit : ℕ)
    → accessed.stage ≡ Host
    → number_shown q accessed.thing n (chain_stage accessed.stage) (chain_access accessed.access) from (chain_stage stage) (chain_access access) ≡ limit
    → IsCoveredBelow (from_queue q from) n accessed stage access limit
covered-shown q from n accessed stage access limit host is i by =
    let of = queue-counts q from i stage by in
    let on = covered-on q from i stage access accessed.thing n accessed.stage accessed.access in
    let number = λ (queue : ℕ).
    number_to q accessed.thing n queue (chain_stage accessed.stage) (chain_access accessed.access) from (chain_stage stage) (chain_access access)
    in
    (λ j. list_any (is_covered_on q i stage access accessed.thing n accessed.stage accessed.access) (queues_at (queue_of q n) (host j)))
    ∙ ((λ j. on 0 of j || (on 1 of j || (on 2 of j || (on 3 of j || false))))
    ∙ (lt-any i (number 0) (number 1) (number 2) (number 3) ∙ (λ j. nat_lt i (is j))))

-- ---- of all ways of writing

abbrev pub Covers : QueueCommands → ℕ → ℕ → Accessed → (Stage → AccessType → ℕ → Type 0) → Type 0
Covers q from n accessed P =
    (stage : Stage) (access : AccessType) (limit : ℕ) → P stage access limit
    → IsCoveredBelow (from_queue q from) n accessed stage access limit

ways-covered :
    (q : QueueCommands) (from n : ℕ) (accessed : Accessed) (number : ChainStage → ChainAccess → ℕ) (limits : PerWay)
    → Covers q from n accessed (λ stage access limit. number (chain_stage stage) (chain_access access) ≡ limit)
    → AreWays number limits → AreCoveredBelow (from_queue q from) n accessed limits
ways-covered q from n accessed number limits covers are = record {
  transfers = covers Transfer TransferWrite limits.transfers are.transfers;
  builds = covers Build StructureWrite limits.builds are.builds;
  properties = covers Build TransferWrite limits.properties are.properties;
  copies = covers StructureCopy StructureWrite limits.copies are.copies;
  serialized = covers StructureCopy TransferWrite limits.serialized are.serialized;
  traces = covers Compute ShaderWrite limits.traces are.traces;
}

pub sources-covered :
    (q : QueueCommands) (n : ℕ) (accessed : Accessed) (number : ℕ → ChainStage → ChainAccess → ℕ) (limits : PerSource)
    → ((from : ℕ) → Covers q from n accessed (λ stage access limit. number from (chain_stage stage) (chain_access access) ≡ limit))
    → AreSources number limits → AreAllCovered q n accessed limits
sources-covered q n accessed number limits covers are = record {
  zero = ways-covered q 0 n accessed (number 0) limits.zero (covers 0) are.zero;
  one = ways-covered q 1 n accessed (number 1) limits.one (covers 1) are.one;
  two = ways-covered q 2 n accessed (number 2) limits.two (covers 2) are.two;
  three = ways-covered q 3 n accessed (number 3) limits.three (covers 3) are.three;
}

-- a stage that isn't the host's is covered at one queue
one-queue : (queue : ℕ) (to : Stage) → (to ≡ Host → ⊥) → (f : ℕ → Bool) → list_any f (queues_at queue to) ≡ f queue
one-queue queue Transfer not f = or-none (f queue)
one-queue queue Build not f = or-none (f queue)
one-queue queue StructureCopy not f = or-none (f queue)
one-queue queue Compute not f = or-none (f queue)
one-queue queue Host not f = absurd (not refl)

pub all-here :
    (q : QueueCommands) (n queue : ℕ) (accessed : Accessed) (s : ChainStage) (x : ChainAccess) (limits : PerSource)
    → (accessed.stage ≡ Host → ⊥) → queue ≡ queue_of q n → s ≡ chain_stage accessed.stage → x ≡ chain_access accessed.access
    → AreSources (number_to q accessed.thing n queue s x) limits → AreAllCovered q n accessed limits
all-here q n queue accessed s x limits not at e f are =
    sources-covered q n accessed (number_to q accessed.thing n queue s x) limits (λ from stage access limit is.
    covered-here q from n queue accessed stage access limit (one-queue queue accessed.stage not) at
    ((λ j. number_to q accessed.thing n queue (sym e j) (sym f j) from (chain_stage stage) (chain_access access)) ∙ is)) are

pub all-shown :
    (q : QueueCommands) (n : ℕ) (accessed : Accessed) (s : ChainStage) (x : ChainAccess) (limits : PerSource)
    → accessed.stage ≡ Host → s ≡ chain_stage accessed.stage → x ≡ chain_access accessed.access
    → AreSources (number_shown q accessed.thing n s x) limits → AreAllCovered q n accessed limits
all-shown q n accessed s x limits host e f are =
    sources-covered q n accessed (number_shown q accessed.thing n s x) limits (λ from stage access limit is.
    covered-shown q from n accessed stage access limit host
    ((λ j. number_shown q accessed.thing n (sym e j) (sym f j) from (chain_stage stage) (chain_access access)) ∙ is)) are

-- ---- what is ordered

ordered-here :
    (q : QueueCommands) (from n queue : ℕ) (to stage : Stage) (s : ChainStage) (limit : ℕ) → queue ≡ queue_of q n
    → s ≡ chain_stage to → number_at q queue n s from (chain_stage stage) ≡ limit
    → IsOrderedBelow (from_queue q from) n to stage limit
ordered-here q from n queue to stage s limit at e is i by =
    fronts-are-exact Node always (steps_from q (queue_of q i) (chain_stage stage)) i n (At (queue_of q n) (chain_stage to))
    ∙ ((λ j. nat_lt i (number_at q (sym at j) n (sym e j) (queue-counts q from i stage by j) (chain_stage stage)))
    ∙ (λ j. nat_lt i (is j)))

stages-ordered :
    (q : QueueCommands) (from n queue : ℕ) (to : Stage) (s : ChainStage) (limits : PerStage) → queue ≡ queue_of q n
    → s ≡ chain_stage to → ArePerStage (number_at q queue n s from) limits
    → AreOrdered (from_queue q from) n to (stage_limits limits)
stages-ordered q from n queue to s limits at e are = record {
  transfers = ordered-here q from n queue to Transfer s limits.transfer at e are.transfer;
  builds = ordered-here q from n queue to Build s limits.build at e are.build;
  copies = ordered-here q from n queue to StructureCopy s limits.structure_copy at e are.structure_copy;
  traces = ordered-here q from n queue to Compute s limits.compute at e are.compute;
}

pub all-ordered :
    (q : QueueCommands) (n queue : ℕ) (to : Stage) (s : ChainStage) (limits : PerQueue) → queue ≡ queue_of q n
    → s ≡ chain_stage to → ArePerQueue (number_at q queue n s) limits → AreAllOrdered q n to limits
all-ordered q n queue to s limits at e are = record {
  zero = stages-ordered q 0 n queue to s limits.zero at e are.zero;
  one = stages-ordered q 1 n queue to s limits.one at e are.one;
  two = stages-ordered q 2 n queue to s limits.two at e are.two;
  three = stages-ordered q 3 n queue to s limits.three at e are.three;
}
