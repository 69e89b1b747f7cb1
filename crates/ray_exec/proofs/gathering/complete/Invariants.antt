use Rattle.ray_memory.specs.State.{memory_of}
use Rattle.ray_exec.proofs.Places.{AreGivenTo}
use Rattle.ray_exec.proofs.gathering.complete.Given as goal

-- what is given so far, and the places that are left
abbrev pub invariant-loop-place : goal.invariant-loop-place
invariant-loop-place g l =
    AreGivenTo l.fn.rec (g.F.Fetcher.clients l.fn.fetcher l.fn.rec) (memory_of l.fn.state) l.fn.pieces l.outs.len l.outs.items l.place-iterator.rest.items
    × (goal.iterator-loop-place g).can_next l.place-iterator
    × (goal.iterator-loop-place g).is_finite l.place-iterator
