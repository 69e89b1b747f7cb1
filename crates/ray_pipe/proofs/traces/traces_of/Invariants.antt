use Rattle.ray_pipe.proofs.Counting.{AreTraces}
use Rattle.ray_pipe.proofs.traces.traces_of.Given as goal

-- of the commands so far
abbrev pub invariant-loop-i : goal.invariant-loop-i
invariant-loop-i l = AreTraces l.rec l.i l.scripted.items l.counts.items
