-- What is kept of the commands of each queue, and what is known of a command. (Own.)
use Rattle.std.specs.Prelude.{◌⊎◌, ◌==◌, ℕ, List, Option, Some, None}
use Rattle.ray_access.specs.declared.touched.Touched.{Touched}
use Rattle.ray_hazards.specs.declared.lanes.Lanes.{Lanes}
use Rattle.ray_hazards.specs.declared.limits.Accessed.{Accessed}
use Rattle.ray_hazards.specs.Cells.{cell_of}
use Rattle.ray_hazards.specs.Counting.{Counted}
use Rattle.ray_hazards.specs.Lanes.{AnyUncovered, AnyUnordered, AreCoveredBelow, AreEnough, AreLanes, AreOrdered, LanesBelow, NoneCounts}
use Rattle.ray_queues.specs.declared.per_queue.PerQueue.{PerQueue}
use Rattle.ray_queues.specs.declared.per_queue.PerStage.{PerStage}
use Rattle.ray_queues.specs.QueueOrder.{queue_order}
use Rattle.ray_hazards.specs.declared.limits.PerStage.{PerStage as StageLimits}
use Rattle.ray_rules.specs.declared.access_type.AccessType.{AccessType}
use Rattle.ray_rules.specs.declared.stage.Stage.{Stage}
use Rattle.ray_submits.specs.Submits.{QueueCommands, queue_of}
use Rattle.ray_queue_check.specs.declared.lanes.QueueLanes.{QueueLanes}
use Rattle.ray_queue_check.specs.declared.per_source.PerSource.{PerSource}

-- the commands of a queue, by the order over queues
abbrev pub from_queue : QueueCommands → ℕ → Counted
from_queue q from = record { commands = q.commands; counts = λ i. queue_of q i == from; order = queue_order q }

-- the lanes of a queue where command number n stands: there are none as long as it has done nothing
abbrev pub IsUsed : QueueCommands → ℕ → List ℕ → ℕ → Option Lanes → Type 0
IsUsed q from starts n None = NoneCounts (from_queue q from) n
IsUsed q from starts n (Some lanes) = AreLanes (from_queue q from) starts n lanes

-- those of each queue
pub record AreUsed (q : QueueCommands) (starts : List ℕ) (n : ℕ) (z : QueueLanes) : Type 0 where
  pub zero : IsUsed q 0 starts n z.zero
  pub one : IsUsed q 1 starts n z.one
  pub two : IsUsed q 2 starts n z.two
  pub three : IsUsed q 3 starts n z.three

-- lanes, where there are any, have this many cells at least
abbrev pub AreRoomy : ℕ → Option Lanes → Type 0
AreRoomy cells None = Unit {0}
AreRoomy cells (Some lanes) = AreEnough cells lanes

pub record AllRoomy (cells : ℕ) (z : QueueLanes) : Type 0 where
  pub zero : AreRoomy cells z.zero
  pub one : AreRoomy cells z.one
  pub two : AreRoomy cells z.two
  pub three : AreRoomy cells z.three

-- no mark of lanes, where there are any, is above a number
abbrev pub AreLow : ℕ → ℕ → Option Lanes → Type 0
AreLow cells value None = Unit {0}
AreLow cells value (Some lanes) = LanesBelow cells value lanes

pub record AllLow (cells value : ℕ) (z : QueueLanes) : Type 0 where
  pub zero : AreLow cells value z.zero
  pub one : AreLow cells value z.one
  pub two : AreLow cells value z.two
  pub three : AreLow cells value z.three

-- below these numbers what each queue wrote is covered to an access where command number n stands
pub record AreAllCovered (q : QueueCommands) (n : ℕ) (accessed : Accessed) (limits : PerSource) : Type 0 where
  pub zero : AreCoveredBelow (from_queue q 0) n accessed limits.zero
  pub one : AreCoveredBelow (from_queue q 1) n accessed limits.one
  pub two : AreCoveredBelow (from_queue q 2) n accessed limits.two
  pub three : AreCoveredBelow (from_queue q 3) n accessed limits.three

-- numbers of stages, as lanes take them
abbrev pub stage_limits : PerStage → StageLimits
stage_limits numbers = record {
  transfer = numbers.transfer;
  build = numbers.build;
  structure_copy = numbers.structure_copy;
  compute = numbers.compute;
}

-- below these numbers what each queue did is ordered before a stage where command number n stands
pub record AreAllOrdered (q : QueueCommands) (n : ℕ) (to : Stage) (limits : PerQueue) : Type 0 where
  pub zero : AreOrdered (from_queue q 0) n to (stage_limits limits.zero)
  pub one : AreOrdered (from_queue q 1) n to (stage_limits limits.one)
  pub two : AreOrdered (from_queue q 2) n to (stage_limits limits.two)
  pub three : AreOrdered (from_queue q 3) n to (stage_limits limits.three)

-- ---- what is looked for

-- something is so of the commands of some queue
abbrev pub OfSome : (ℕ → ℕ → Type 0) → ℕ → Type 0
OfSome P i = (P 0 i ⊎ P 1 i) ⊎ (P 2 i ⊎ P 3 i)

-- what a command of some queue wrote to a thing in a range of cells, not covered; and what one read there,
-- not ordered
abbrev pub SomeUncovered : QueueCommands → List ℕ → Option ℕ → ℕ → Stage → AccessType → ℕ → ℕ → ℕ → Type 0
SomeUncovered q starts thing n to x first end i =
    OfSome (λ from. AnyUncovered (from_queue q from) starts thing n to x first end) i

abbrev pub SomeUnordered : QueueCommands → List ℕ → ℕ → Stage → ℕ → ℕ → ℕ → Type 0
SomeUnordered q starts n to first end i = OfSome (λ from. AnyUnordered (from_queue q from) starts n to first end) i

-- the same of a touch
abbrev pub MeetsWritten : QueueCommands → List ℕ → ℕ → Stage → Touched → ℕ → Type 0
MeetsWritten q starts n to t i =
    SomeUncovered q starts t.buffer n to t.access (cell_of starts t.range.from) (cell_of starts t.range.end) i

abbrev pub MeetsRead : QueueCommands → List ℕ → ℕ → Stage → Touched → ℕ → Type 0
MeetsRead q starts n to t i =
    SomeUnordered q starts n to (cell_of starts t.range.from) (cell_of starts t.range.end) i
