use Rattle.ray_memory.specs.State.{memory_of}
use Rattle.ray_exec.specs.Settled.{settled}
use Rattle.ray_exec.proofs.UnderWay.{IsUnderWay}
use Rattle.ray_exec.proofs.settling.settle.Given as goal

abbrev pub invariant-loop-given : goal.invariant-loop-given
invariant-loop-given g l =
    IsUnderWay l.fn.rec (g.F.Fetcher.clients l.fn.fetcher l.fn.rec) (memory_of l.fn.state) (settled l.fn.rec (g.F.Fetcher.clients l.fn.fetcher l.fn.rec) (memory_of l.fn.state) l.fn.pieces (memory_of l.fn.state) l.fn.text.items)
    l.given-iterator.rest.items (memory_of l.state) l.text.items
    × (goal.iterator-loop-given g).can_next l.given-iterator
    × (goal.iterator-loop-given g).is_finite l.given-iterator
