use Rattle.std.proofs.Common.{◌≡◌, ◌<◌, take, ℕ}
use Rattle.ray_hazards.specs.Lasts.{AnyOf, IsLast}
use Rattle.ray_submits.specs.Submits.{QueueCommands, queue_of}
use Rattle.ray_queue_check.specs.Arriving.{AreArriving}
use Rattle.ray_queue_check.specs.Lanes.{AreUsed, MeetsWritten}
use Rattle.ray_queue_check.proofs.hazards.last_uncovered.Given as goal

-- of the touches so far
abbrev pub invariant-loop-touch : goal.invariant-loop-touch
invariant-loop-touch l =
    l.fn.queue < 4 → (q : QueueCommands) (n : ℕ) → l.fn.queue ≡ queue_of q n → AreUsed q l.fn.cells n l.fn.lanes
    → AreArriving q n l.fn.everywhere
    → IsLast (λ i. AnyOf (λ t. MeetsWritten q l.fn.cells n l.fn.to t i) (take l.touch-index l.fn.touches)) n l.last
