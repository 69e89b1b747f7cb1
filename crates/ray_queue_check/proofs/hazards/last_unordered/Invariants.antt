use Rattle.std.proofs.Common.{take, ℕ}
use Rattle.ray_hazards.specs.Lasts.{AnyOf, IsLast}
use Rattle.ray_rules.specs.declared.stage.Stage.{Stage}
use Rattle.ray_submits.specs.Submits.{QueueCommands}
use Rattle.ray_queue_check.specs.Lanes.{AreAllOrdered, AreUsed, MeetsRead}
use Rattle.ray_queue_check.proofs.hazards.last_unordered.Given as goal

-- of the touches so far
abbrev pub invariant-loop-touch : goal.invariant-loop-touch
invariant-loop-touch l =
    (q : QueueCommands) (n : ℕ) (to : Stage) → AreUsed q l.fn.cells n l.fn.lanes → AreAllOrdered q n to l.fn.limits
    → IsLast (λ i. AnyOf (λ t. MeetsRead q l.fn.cells n to t i) (take l.touch-index l.fn.touches)) n l.last
