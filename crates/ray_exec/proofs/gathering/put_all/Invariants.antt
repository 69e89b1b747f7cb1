use Rattle.ray_memory.specs.State.{memory_of}
use Rattle.ray_exec.specs.Given.{AreFilled}
use Rattle.ray_exec.proofs.gathering.put_all.Given as goal

abbrev pub invariant-loop-drawn : goal.invariant-loop-drawn
invariant-loop-drawn g l =
    AreFilled l.fn.rec (g.F.Fetcher.clients l.fn.fetcher l.fn.rec) (memory_of l.fn.state) l.fn.pieces l.places.items
    × (goal.iterator-loop-drawn g).can_next l.drawn-iterator
    × (goal.iterator-loop-drawn g).is_finite l.drawn-iterator
