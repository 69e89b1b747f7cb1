use Rattle.std.proofs.Common.{ap}
use Rattle.ray_climb.specs.Refits.{refit_value}
use Rattle.ray_climb.proofs.Ranges.{each_done}
use Rattle.ray_climb.proofs.all.climb_all.Goals as goal

pub close-requires-clause-done : goal.close-requires-clause-done
close-requires-clause-done g c =
    each_done _ (refit_value c.args.tree c.args.items.items) c.leaves-leaves.result 0 c.climb_by-seat.result.done c.in-Ok.ensures.refit c.leaves-leaves.ensures
    (ap (λ s. s.done) c.climb_by-seat.ensures)
