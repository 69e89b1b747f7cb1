use Rattle.ray_exec.specs.Waves.{AreEmpty}
use Rattle.ray_exec.proofs.wave.none.Given as goal

abbrev pub invariant-loop-k : goal.invariant-loop-k
invariant-loop-k l = AreEmpty l._k l.lists.items
