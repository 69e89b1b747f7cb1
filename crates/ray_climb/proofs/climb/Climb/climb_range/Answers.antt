use Rattle.std.proofs.Common.{◌∙◌, ◌++◌, ◌∷◌, [], ap, arith}
use Rattle.ray_climb.specs.Seats.{seat_view}
use Rattle.ray_climb.specs.Steps.{without}
use Rattle.ray_climb.proofs.Ranges.{next_done}
use Rattle.ray_climb.proofs.climb.Climb.climb_range.Goals as goal

pub loop-leaf-preserved : goal.loop-leaf-preserved
loop-leaf-preserved c =
    c.climb_leaf.ensures.moved
    ∙ ap (λ s. seat_view s.id (without c.loop-leaf.leaf s.todo) (s.done ++ c.loop-leaf.leaf ∷ [])) c.loop-leaf.invariant
    ∙ next_done c.args.seat.now.id c.args.seat.now.done c.args.from c.args.to c.loop-leaf.leaf (omega arith) (omega arith)
