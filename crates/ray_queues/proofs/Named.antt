-- Queues and stages by their names.
use Rattle.std.proofs.Common.{◌≡◌, ◌<◌, ◌∙◌, ℕ, zero, suc, Bool, true, false, List, [], ◌∷◌, Option, Some, None, slice_get, refl, sym, subst, arith}
use Rattle.std.specs.Prelude.{◌==◌, if◌then◌else◌}
use Rattle.std.proofs.lemmas.Bool.Decides.{nat_tests}
use Rattle.ray_chains.specs.declared.stage.Stage.{Stage}
use Rattle.ray_rules.specs.declared.kind.Kind.{Kind}
use Rattle.ray_rules.specs.declared.kind.Kind.TheVariants as rules
use Rattle.ray_rules.specs.Order.{kind_at}
use Rattle.ray_submits.specs.declared.submission.Submission.{Submission}
use Rattle.ray_submits.specs.Submits.{HaveQueues, QueueCommands, queue_by, queue_in, queue_of, submission_at, submits_below}
use Rattle.ray_queues.specs.declared.per_queue.PerQueue.{PerQueue}
use Rattle.ray_queues.specs.declared.per_queue.PerStage.{PerStage}
use Rattle.ray_queues.specs.declared.wave_kind.DeviceStage.{DeviceStage}
use Rattle.ray_queues.specs.declared.wave_kind.DeviceStage.TheVariants.{Transfer, Build, StructureCopy, Compute}
use Rattle.ray_queues.specs.declared.wave_kind.Queue.{Queue}
use Rattle.ray_queues.specs.declared.wave_kind.Queue.TheVariants.{Zero, One, Two, Three}
use Rattle.ray_queues.specs.Kinds.{at_queue, at_stage, chain_named, number_named, queue_named}
use Rattle.ray_queues.specs.Numbers.{all_queues, all_stages}
use Rattle.ray_queues.specs.Sources.{ArePerQueue, ArePerStage}

-- a queue below 4 has its name
pub named-number : (queue : ℕ) → queue < 4 → number_named (queue_named queue) ≡ queue
named-number queue low = first (queue == 0) refl
  where
    third : (b : Bool) → (queue == 2) ≡ b → (queue == 0) ≡ false → (queue == 1) ≡ false
        → number_named (if b then Two else Three) ≡ queue
    third true e f g = grind (arith, nat_tests)
    third false e f g = grind (arith, nat_tests)

    second : (b : Bool) → (queue == 1) ≡ b → (queue == 0) ≡ false
        → number_named (if b then One else if queue == 2 then Two else Three) ≡ queue
    second true e f = grind (arith, nat_tests)
    second false e f = third (queue == 2) refl f e

    first : (b : Bool) → (queue == 0) ≡ b
        → number_named (if b then Zero else if queue == 1 then One else if queue == 2 then Two else Three) ≡ queue
    first true e = grind (arith, nat_tests)
    first false e = second (queue == 1) refl e

-- numbers by names
stage-named : (number : Stage → ℕ) (numbers : PerStage) → ArePerStage number numbers → (stage : DeviceStage)
    → number (chain_named stage) ≡ at_stage numbers stage
stage-named number numbers are Transfer = are.transfer
stage-named number numbers are Build = are.build
stage-named number numbers are StructureCopy = are.structure_copy
stage-named number numbers are Compute = are.compute

pub queue-named : (number : ℕ → Stage → ℕ) (numbers : PerQueue) → ArePerQueue number numbers → (queue : Queue) (stage : DeviceStage)
    → number (number_named queue) (chain_named stage) ≡ at_stage (at_queue numbers queue) stage
queue-named number numbers are Zero stage = stage-named (number 0) numbers.zero are.zero stage
queue-named number numbers are One stage = stage-named (number 1) numbers.one are.one stage
queue-named number numbers are Two stage = stage-named (number 2) numbers.two are.two stage
queue-named number numbers are Three stage = stage-named (number 3) numbers.three are.three stage

pub number-named : (number : ℕ → Stage → ℕ) (numbers : PerQueue) → ArePerQueue number numbers → (queue : ℕ) → queue < 4
    → (stage : DeviceStage) → number queue (chain_named stage) ≡ at_stage (at_queue numbers (queue_named queue)) stage
number-named number numbers are queue low stage =
    (λ i. number (sym (named-number queue low) i) (chain_named stage)) ∙ queue-named number numbers are (queue_named queue) stage

-- one number for all
all-stage : (k : ℕ) (stage : DeviceStage) → at_stage (all_stages k) stage ≡ k
all-stage k Transfer = refl
all-stage k Build = refl
all-stage k StructureCopy = refl
all-stage k Compute = refl

pub all-queue : (k : ℕ) (queue : Queue) (stage : DeviceStage) → at_stage (at_queue (all_queues k) queue) stage ≡ k
all-queue k Zero stage = all-stage k stage
all-queue k One stage = all-stage k stage
all-queue k Two stage = all-stage k stage
all-queue k Three stage = all-stage k stage

-- ---- the queue of a command

member : (submits : List Submission) (k : ℕ) (s : Submission) → HaveQueues submits → slice_get submits k ≡ Some s → s.queue < 4
member [] k s are e = absurd cc
member (x ∷ submits) zero s are e = let same : x ≡ s = cc in subst (λ (y : Submission). y.queue < 4) same (are 0 x (omega arith))
member (x ∷ submits) (suc k) s are e = member submits k s (λ i d below. are (suc i) d (omega (arith, below))) e

in-below : (o : Option Submission) → ((s : Submission) → o ≡ Some s → s.queue < 4) → queue_in o < 4
in-below None low = omega arith
in-below (Some s) low = low s refl

by-below : (kind : Kind) (o : Option Submission) → queue_in o < 4 → queue_by kind o < 4
by-below rules.HostCommand o low = omega arith
by-below rules.Barrier o low = low
by-below (rules.Device stage) o low = low

pub submission-below : (q : QueueCommands) → HaveQueues q.submits → (i : ℕ) → queue_in (submission_at q i) < 4
submission-below q have i = in-below (submission_at q i) (λ s e. member q.submits (submits_below q.commands i) s have e)

pub queue-below : (q : QueueCommands) → HaveQueues q.submits → (i : ℕ) → queue_of q i < 4
queue-below q have i = by-below (kind_at q.commands i) (submission_at q i) (submission-below q have i)
