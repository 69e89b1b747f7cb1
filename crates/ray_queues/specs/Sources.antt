-- How far what the commands of each queue and stage did has been handed on, by numbers: below a number
-- all of it has, and else nothing. (Own.)
use Rattle.std.specs.Prelude.{◌≡◌, ℕ, false, List, Option, None}
use Rattle.ray_chains.specs.declared.masks.MemoryBarrier.{MemoryBarrier}
use Rattle.ray_chains.specs.declared.stage.Stage.{Stage}
use Rattle.ray_chains.specs.declared.stage.Stage.TheVariants.{Transfer, Build, StructureCopy, Compute}
use Rattle.ray_chains.specs.Dependencies.{Step}
use Rattle.ray_chains.specs.Fronts.{front, greatest_of}
use Rattle.ray_chains.specs.Keeping.{IsFront, hands_to}
use Rattle.ray_chains.specs.QueueLaws.{source_of}
use Rattle.ray_chains.specs.Queues.{Node, At, Barrier, Begin, Wait, TimelinePoint, met_by, steps}
use Rattle.ray_chains.specs.Tables.{scopes_of}
use Rattle.ray_rules.specs.Order.{always}
use Rattle.ray_submits.specs.Submits.{QueueCommands}
use Rattle.ray_queues.specs.declared.arrived.Arrived.{Arrived}
use Rattle.ray_queues.specs.declared.arrived.QueueEvent.{QueueEvent}
use Rattle.ray_queues.specs.declared.arrived.QueueEvent.TheVariants as passed
use Rattle.ray_queues.specs.declared.per_queue.PerQueue.{PerQueue}
use Rattle.ray_queues.specs.declared.per_queue.PerStage.{PerStage}
use Rattle.ray_queues.specs.declared.sources.Sources.{Sources}
use Rattle.ray_queues.specs.declared.targets.Targets.{Targets}
use Rattle.ray_queues.specs.Events.{event_at}

-- the steps by which what the commands of a queue do at a stage is ordered
abbrev pub steps_from : QueueCommands → ℕ → Stage → ℕ → Step Node
steps_from q from stage = steps (event_at q) (source_of from stage None)

-- below which number it has reached a node where command number n stands
abbrev pub front_from : QueueCommands → ℕ → Stage → ℕ → Node → ℕ
front_from q from stage n v = front always (steps_from q from stage) n v

-- ---- at one queue

-- fronts at a queue of what another did at each stage
pub record IsSources (q : QueueCommands) (from at n : ℕ) (z : Sources) : Type 0 where
  pub transfer : IsFront always (steps_from q from Transfer) at n z.transfer
  pub build : IsFront always (steps_from q from Build) at n z.build
  pub structure_copy : IsFront always (steps_from q from StructureCopy) at n z.structure_copy
  pub compute : IsFront always (steps_from q from Compute) at n z.compute

-- and of what each queue did
pub record IsArrived (q : QueueCommands) (at n : ℕ) (z : Arrived) : Type 0 where
  pub zero : IsSources q 0 at n z.zero
  pub one : IsSources q 1 at n z.one
  pub two : IsSources q 2 at n z.two
  pub three : IsSources q 3 at n z.three

-- at each queue
pub record AreTargets (q : QueueCommands) (n : ℕ) (z : Targets) : Type 0 where
  pub zero : IsArrived q 0 n z.zero
  pub one : IsArrived q 1 n z.one
  pub two : IsArrived q 2 n z.two
  pub three : IsArrived q 3 n z.three

-- ---- at one node, or several

-- these numbers are what a function has for what a queue did at each stage
pub record ArePerStage (number : Stage → ℕ) (numbers : PerStage) : Type 0 where
  pub transfer : number Transfer ≡ numbers.transfer
  pub build : number Build ≡ numbers.build
  pub structure_copy : number StructureCopy ≡ numbers.structure_copy
  pub compute : number Compute ≡ numbers.compute

-- and for what each queue did
pub record ArePerQueue (number : ℕ → Stage → ℕ) (numbers : PerQueue) : Type 0 where
  pub zero : ArePerStage (number 0) numbers.zero
  pub one : ArePerStage (number 1) numbers.one
  pub two : ArePerStage (number 2) numbers.two
  pub three : ArePerStage (number 3) numbers.three

-- below which number what was done has reached a stage of a queue where command number n stands
abbrev pub number_at : QueueCommands → ℕ → ℕ → Stage → ℕ → Stage → ℕ
number_at q at n to from stage = front_from q from stage n (At at to)

-- below which number what was done is carried by the signals that meet some waits
abbrev pub number_met : QueueCommands → ℕ → List TimelinePoint → ℕ → Stage → ℕ
number_met q n waits from stage = greatest_of (front_from q from stage n) (met_by (event_at q) n waits)

-- ---- events

-- a barrier of a queue is command number n, with whatever limits
pub record IsBarrierOn (q : QueueCommands) (n queue : ℕ) (barrier : MemoryBarrier) : Type 0 where
  pub buffers : Option (List ℕ)
  pub is : event_at q n ≡ Barrier queue (scopes_of barrier) buffers

-- the begin of a submission to a queue is, and these numbers are carried by what meets its waits
pub record IsBeginOn (q : QueueCommands) (n queue : ℕ) (numbers : PerQueue) : Type 0 where
  pub waits : List TimelinePoint
  pub is : event_at q n ≡ Begin queue waits
  pub met : ArePerQueue (number_met q n waits) numbers

-- command number n is such an event; another one hands nothing to any queue
abbrev pub IsEvent : QueueCommands → ℕ → QueueEvent → Type 0
IsEvent q n (passed.Barrier queue barrier) = IsBarrierOn q n queue barrier
IsEvent q n (passed.Begin queue numbers) = IsBeginOn q n queue numbers
IsEvent q n passed.Wait = event_at q n ≡ Wait
IsEvent q n passed.Other = (queue : ℕ) → hands_to queue (event_at q n) ≡ false
