use Rattle.ray_climb.specs.Ready.{AreParentsBelow}
use Rattle.ray_climb.proofs.parents.mark_all.Given as goal

abbrev pub invariant-loop-n : goal.invariant-loop-n
invariant-loop-n l = AreParentsBelow l.tree l.parents l.n
