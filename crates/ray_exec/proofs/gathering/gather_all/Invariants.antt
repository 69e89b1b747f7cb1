use Rattle.std.proofs.Common.{◌≡◌}
use Rattle.ray_memory.specs.State.{memory_of}
use Rattle.ray_exec.specs.Given.{AreFilled}
use Rattle.ray_exec.proofs.gathering.gather_all.Given as goal

abbrev pub invariant-loop-worked : goal.invariant-loop-worked
invariant-loop-worked g l =
    (l.seat.table ≡ l.claims.table)
    × AreFilled l.fn.rec (g.F.Fetcher.clients l.fn.fetcher l.fn.rec) (memory_of l.fn.state) l.fn.pieces l.places.items
    × (goal.iterator-loop-worked g).can_next l.worked-iterator
    × (goal.iterator-loop-worked g).is_finite l.worked-iterator
