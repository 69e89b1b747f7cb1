use Rattle.ray_submits.proofs.Counting.{AreCounted}
use Rattle.ray_submits.proofs.counts.counts_of.Given as goal

-- of the commands so far
abbrev pub invariant-loop-i : goal.invariant-loop-i
invariant-loop-i l = AreCounted l.recording l.i l.below.items l.all
