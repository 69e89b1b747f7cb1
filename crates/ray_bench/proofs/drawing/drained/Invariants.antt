use Rattle.std.proofs.Common.{◌≡◌, ◌-◌, length}
use Rattle.ray_bench.proofs.drawing.drained.Given as goal

abbrev pub invariant-loop-number : goal.invariant-loop-number
invariant-loop-number l = l.seat.table ≡ l.claims.table

abbrev pub decreases-loop-number : goal.decreases-loop-number
decreases-loop-number l = l.claims.n - length l.seat.drawn
