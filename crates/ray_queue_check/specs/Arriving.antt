-- How far what each queue wrote is covered at each queue. (Own.)
use Rattle.std.specs.Prelude.{◌≡◌, ℕ, false, ◌==◌, max, List, Option, Some, None}
use Rattle.ray_chains.specs.declared.access_type.AccessType.{AccessType}
use Rattle.ray_chains.specs.declared.access_type.AccessType.TheVariants.{TransferWrite}
use Rattle.ray_chains.specs.declared.masks.MemoryBarrier.{MemoryBarrier}
use Rattle.ray_chains.specs.declared.stage.Stage.{Stage}
use Rattle.ray_chains.specs.declared.stage.Stage.TheVariants.{Transfer}
use Rattle.ray_chains.specs.Keeping.{hands_to}
use Rattle.ray_chains.specs.QueueLaws.{source_of}
use Rattle.ray_chains.specs.Queues.{Barrier, Begin, Source, TimelinePoint, Wait}
use Rattle.ray_chains.specs.Tables.{scopes_of}
use Rattle.ray_hazards.specs.declared.carried.Carried.{Carried}
use Rattle.ray_hazards.specs.Carrying.{Acting, AreCarried, AreNamed, IsCarried, IsMet, front_to}
use Rattle.ray_queues.specs.declared.per_queue.PerQueue.{PerQueue}
use Rattle.ray_queues.specs.Events.{event_at}
use Rattle.ray_rules.specs.Order.{acts_at}
use Rattle.ray_submits.specs.Submits.{QueueCommands}
use Rattle.ray_queue_check.specs.declared.arriving.Arriving.{Arriving}
use Rattle.ray_queue_check.specs.declared.everywhere.Everywhere.{Everywhere}
use Rattle.ray_queue_check.specs.declared.passed.Passed.{Passed}
use Rattle.ray_queue_check.specs.declared.passed.Passed.TheVariants as passed

-- the events of several queues, and on what each acts
abbrev pub several_queues : QueueCommands → Acting
several_queues q = record { events = event_at q; acts = acts_at q.commands }

-- what a queue wrote, told at another: there neither the stage nor the access matters
abbrev pub far_source : ℕ → Source
far_source from = source_of from Transfer (Some TransferWrite)

-- what is kept at a queue of what another one wrote; of the own commands it says nothing
abbrev pub IsFar : QueueCommands → ℕ → ℕ → ℕ → Carried → Type 0
IsFar q from queue n z = (queue == from) ≡ false → IsCarried (several_queues q) (far_source from) queue n z

-- what is kept at a queue where command number n stands
pub record IsArriving (q : QueueCommands) (queue n : ℕ) (z : Arriving) : Type 0 where
  pub own : AreCarried (several_queues q) queue n z.own
  pub zero : IsFar q 0 queue n z.zero
  pub one : IsFar q 1 queue n z.one
  pub two : IsFar q 2 queue n z.two
  pub three : IsFar q 3 queue n z.three

-- at each queue
pub record AreArriving (q : QueueCommands) (n : ℕ) (z : Everywhere) : Type 0 where
  pub zero : IsArriving q 0 n z.zero
  pub one : IsArriving q 1 n z.one
  pub two : IsArriving q 2 n z.two
  pub three : IsArriving q 3 n z.three

-- ---- questions

-- below which number what a queue wrote at a stage with an access is covered to an access at a stage of a
-- queue where command number n stands
abbrev pub number_to : QueueCommands → Option ℕ → ℕ → ℕ → Stage → AccessType → ℕ → Stage → AccessType → ℕ
number_to q thing n queue to x from stage access =
    front_to (several_queues q) (source_of from stage (Some access)) thing n queue to x

-- and of some queue
abbrev pub number_shown : QueueCommands → Option ℕ → ℕ → Stage → AccessType → ℕ → Stage → AccessType → ℕ
number_shown q thing n to x from stage access =
    max (max (number_to q thing n 0 to x from stage access) (number_to q thing n 1 to x from stage access))
    (max (number_to q thing n 2 to x from stage access) (number_to q thing n 3 to x from stage access))

-- ---- events

-- below these numbers what each queue did is carried by what meets some waits
pub record AreMet (q : QueueCommands) (n : ℕ) (waits : List TimelinePoint) (numbers : PerQueue) : Type 0 where
  pub zero : IsMet (several_queues q) 0 n waits numbers.zero.transfer
  pub one : IsMet (several_queues q) 1 n waits numbers.one.transfer
  pub two : IsMet (several_queues q) 2 n waits numbers.two.transfer
  pub three : IsMet (several_queues q) 3 n waits numbers.three.transfer

-- command number n is a barrier of a queue that is limited to the buffers of these makers
pub record IsLimitedOn (q : QueueCommands) (n queue : ℕ) (barrier : MemoryBarrier) (makers : List ℕ) : Type 0 where
  pub ids : List ℕ
  pub is : event_at q n ≡ Barrier queue (scopes_of barrier) (Some ids)
  pub named : AreNamed (several_queues q) n makers

-- command number n is the begin of a submission to a queue, and these numbers are carried by what meets its
-- waits
pub record IsBegun (q : QueueCommands) (n queue : ℕ) (numbers : PerQueue) : Type 0 where
  pub waits : List TimelinePoint
  pub is : event_at q n ≡ Begin queue waits
  pub met : AreMet q n waits numbers

-- command number n is such an event; another one hands nothing to any queue
abbrev pub IsPassed : QueueCommands → ℕ → Passed → Type 0
IsPassed q n (passed.Barrier queue barrier) = event_at q n ≡ Barrier queue (scopes_of barrier) None
IsPassed q n (passed.Limited queue barrier makers) = IsLimitedOn q n queue barrier makers.items
IsPassed q n (passed.Begin queue numbers) = IsBegun q n queue numbers
IsPassed q n passed.Wait = event_at q n ≡ Wait
IsPassed q n passed.Other = (queue : ℕ) → hands_to queue (event_at q n) ≡ false
