use Rattle.ray_morton.proofs.Rising.{RisesTo}
use Rattle.ray_morton.proofs.entries.do_rise.Given as goal

abbrev pub invariant-loop-i : goal.invariant-loop-i
invariant-loop-i l = RisesTo l.entries l.i
