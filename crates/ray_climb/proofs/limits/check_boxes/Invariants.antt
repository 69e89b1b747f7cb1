use Rattle.ray_climb.specs.Ready.{AreBoxesBelow}
use Rattle.ray_climb.proofs.limits.check_boxes.Given as goal

abbrev pub invariant-loop-i : goal.invariant-loop-i
invariant-loop-i l = AreBoxesBelow l.items l.i
