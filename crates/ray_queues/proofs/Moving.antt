-- What has reached a queue stays where an event hands the queue nothing.
use Rattle.std.proofs.Common.{◌≡◌, ◌≢◌, ◌∙◌, ℕ, suc, subst, Bool, true, false, ◌&&◌, None, refl, ap, arith}
use Rattle.std.specs.Prelude.{◌==◌}
use Rattle.std.proofs.lemmas.Bool.{and_parts, both_ways}
use Rattle.std.proofs.lemmas.Bool.Decides.{nat_tests}
use Rattle.ray_chains.specs.declared.masks.MemoryBarrier.{MemoryBarrier}
use Rattle.ray_chains.specs.declared.stage.Stage.{Stage}
use Rattle.ray_chains.specs.declared.stage.Stage.TheVariants.{Transfer, Build, StructureCopy, Compute}
use Rattle.ray_chains.specs.Keeping.{hands_to}
use Rattle.ray_chains.specs.QueueLaws.{source_of}
use Rattle.ray_chains.specs.Queues.{At, Event, Barrier, Begin, Submit, Wait, Other, Source, step_of}
use Rattle.ray_chains.proofs.Fronts.{stays, comes}
use Rattle.ray_chains.proofs.Nodes.{no}
use Rattle.ray_rules.specs.Order.{always}
use Rattle.ray_submits.specs.Submits.{QueueCommands}
use Rattle.ray_queues.specs.declared.arrived.Arrived.{Arrived}
use Rattle.ray_queues.specs.declared.arrived.QueueEvent.{QueueEvent}
use Rattle.ray_queues.specs.declared.arrived.QueueEvent.TheVariants as passed
use Rattle.ray_queues.specs.declared.per_queue.PerQueue.{PerQueue}
use Rattle.ray_queues.specs.declared.sources.Sources.{Sources}
use Rattle.ray_queues.specs.Events.{event_at}
use Rattle.ray_queues.specs.Sources.{IsArrived, IsBarrierOn, IsBeginOn, IsEvent, IsSources, front_from, steps_from}

-- a barrier takes up directly what the commands of its own queue did at one of its stages
pub taken : (direct own same held : Bool) → direct ≡ (own && held) → own ≡ same → direct ≡ (same && held)
taken direct own same held is e = is ∙ λ i. e i && held

turned : (a b : ℕ) → (a == b) ≡ true → (b == a) ≡ true
turned a b e = grind (arith, nat_tests)

-- what hands on to a stage of a queue hands something to the queue
hands :
    (events : ℕ → Event) (source : Source) (n at : ℕ) (to : Stage) (e : Event)
    → (step_of events source n e).to (At at to) ≡ true → hands_to at e ≡ true
hands events source n at to (Barrier queue scopes buffers) h =
    turned at queue (and_parts (at == queue) (scopes.dst_stages to) h).0
hands events source n at to (Begin queue waits) h = turned at queue (and_parts (at == queue) _ h).0
hands events source n at to (Submit queue signals) h = no h
hands events source n at to Wait h = refl
hands events source n at to Other h = no h

front-stays :
    (q : QueueCommands) (from : ℕ) (stage : Stage) (at n : ℕ) (to : Stage) → hands_to at (event_at q n) ≡ false
    → front_from q from stage (suc n) (At at to) ≡ front_from q from stage n (At at to)
front-stays q from stage at n to off =
    let low = stays always (steps_from q from stage) n (At at to) in
    let high =
    comes always (steps_from q from stage) n (At at to) (front_from q from stage n (At at to)) (omega arith) (λ on h.
    absurd (both_ways (hands_to at (event_at q n)) off
    (hands (event_at q) (source_of from stage None) n at to (event_at q n) h)))
    in
    omega arith

sources-stay :
    (q : QueueCommands) (from at n : ℕ) (z : Sources) → hands_to at (event_at q n) ≡ false
    → IsSources q from at n z → IsSources q from at (suc n) z
sources-stay q from at n z off is = record {
  transfer = record { at = λ to. front-stays q from Transfer at n to off ∙ is.transfer.at to };
  build = record { at = λ to. front-stays q from Build at n to off ∙ is.build.at to };
  structure_copy = record { at = λ to. front-stays q from StructureCopy at n to off ∙ is.structure_copy.at to };
  compute = record { at = λ to. front-stays q from Compute at n to off ∙ is.compute.at to };
}

pub arrived-stays :
    (q : QueueCommands) (at n : ℕ) (z : Arrived) → hands_to at (event_at q n) ≡ false
    → IsArrived q at n z → IsArrived q at (suc n) z
arrived-stays q at n z off is = record {
  zero = sources-stay q 0 at n z.zero off is.zero;
  one = sources-stay q 1 at n z.one off is.one;
  two = sources-stay q 2 at n z.two off is.two;
  three = sources-stay q 3 at n z.three off is.three;
}

other-queue : (queue at : ℕ) → queue ≢ at → (queue == at) ≡ false
other-queue queue at h = grind (arith, nat_tests)

-- a barrier, or the begin of a submission, of another queue
pub barrier-other :
    (q : QueueCommands) (at n queue : ℕ) (barrier : MemoryBarrier) (z : Arrived) → queue ≢ at
    → IsBarrierOn q n queue barrier → IsArrived q at n z → IsArrived q at (suc n) z
barrier-other q at n queue barrier z other is =
    arrived-stays q at n z (ap (hands_to at) is.is ∙ other-queue queue at other)

pub begin-other :
    (q : QueueCommands) (at n queue : ℕ) (numbers : PerQueue) (z : Arrived) → queue ≢ at
    → IsBeginOn q n queue numbers → IsArrived q at n z → IsArrived q at (suc n) z
begin-other q at n queue numbers z other is =
    arrived-stays q at n z (ap (hands_to at) is.is ∙ other-queue queue at other)

-- a command that hands nothing to any queue
pub passes-other :
    (q : QueueCommands) (at n : ℕ) (event : QueueEvent) (z : Arrived) → event ≡ passed.Other → IsEvent q n event
    → IsArrived q at n z → IsArrived q at (suc n) z
passes-other q at n event z e is = arrived-stays q at n z (nothing at)
  where
    nothing : IsEvent q n passed.Other
    nothing = subst (IsEvent q n) e is
