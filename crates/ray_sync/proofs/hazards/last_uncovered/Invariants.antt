use Rattle.std.proofs.Common.{List, take, ℕ}
use Rattle.ray_cmd.specs.declared.command.Command.{Command}
use Rattle.ray_hazards.specs.Carrying.{AreCarried}
use Rattle.ray_hazards.specs.Lanes.{AreLanes, MeetsUncovered}
use Rattle.ray_hazards.specs.Lasts.{AnyOf, IsLast}
use Rattle.ray_sync.specs.OneQueue.{in_order, one_queue}
use Rattle.ray_sync.proofs.hazards.last_uncovered.Given as goal

-- of the touches so far
abbrev pub invariant-loop-touch : goal.invariant-loop-touch
invariant-loop-touch l =
    (rec : List Command) (n : ℕ) → AreLanes (in_order rec) l.fn.cells n l.fn.lanes
    → AreCarried (one_queue rec) 0 n l.fn.coverage
    → IsLast (λ i. AnyOf (λ t. MeetsUncovered (in_order rec) l.fn.cells n l.fn.to t i) (take l.touch-index l.fn.touches)) n l.last
