use Rattle.std.proofs.Common.{List, take, ℕ}
use Rattle.ray_cmd.specs.declared.command.Command.{Command}
use Rattle.ray_hazards.specs.Lanes.{AreLanes, AreOrdered, MeetsUnordered}
use Rattle.ray_hazards.specs.Lasts.{AnyOf, IsLast}
use Rattle.ray_rules.specs.declared.stage.Stage.{Stage}
use Rattle.ray_sync.specs.OneQueue.{in_order}
use Rattle.ray_sync.proofs.hazards.last_unordered.Given as goal

-- of the touches so far
abbrev pub invariant-loop-touch : goal.invariant-loop-touch
invariant-loop-touch l =
    (rec : List Command) (n : ℕ) (to : Stage) → AreLanes (in_order rec) l.fn.cells n l.fn.lanes
    → AreOrdered (in_order rec) n to l.fn.limits
    → IsLast (λ i. AnyOf (λ t. MeetsUnordered (in_order rec) l.fn.cells n to t i) (take l.touch-index l.fn.touches)) n l.last
