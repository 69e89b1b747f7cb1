use Rattle.std.proofs.Common.{◌≡◌, ◌+◌, All}
use Rattle.ray_exec.proofs.gathering.seats.Given as goal

abbrev pub invariant-loop-k : goal.invariant-loop-k
invariant-loop-k l =
    (l.seat.table ≡ l.claims.table) × (l.seat.splits + l._k ≡ l.fn.seat.splits)
    × All (λ s. s.table ≡ l.claims.table) l.seats.items
