use Rattle.ray_stated.proofs.Fronts.{IsFront}
use Rattle.ray_stated.proofs.select.move_front.Given as goal

abbrev pub invariant-loop-i : goal.invariant-loop-i
invariant-loop-i l = IsFront l.axis l.limit l.fn.entries l.entries l.many l.i
