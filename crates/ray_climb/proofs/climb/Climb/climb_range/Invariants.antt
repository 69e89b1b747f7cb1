use Rattle.std.proofs.Common.{◌≡◌, ◌-◌, ◌++◌}
use Rattle.std.specs.List.{range_with_len}
use Rattle.ray_climb.specs.Seats.{seat_view}
use Rattle.ray_climb.proofs.climb.Climb.climb_range.Given as goal

-- the leaves before this one are done
abbrev pub invariant-loop-leaf : goal.invariant-loop-leaf
invariant-loop-leaf l = l.seat ≡ seat_view l.fn.seat.id (range_with_len l.leaf (l.to - l.leaf)) (l.fn.seat.done ++ range_with_len l.fn.from (l.leaf - l.fn.from))
