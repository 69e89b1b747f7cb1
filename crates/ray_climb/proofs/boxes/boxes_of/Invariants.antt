use Rattle.ray_climb.specs.Ready.{AreTrue}
use Rattle.ray_climb.proofs.boxes.boxes_of.Given as goal

abbrev pub invariant-loop-n : goal.invariant-loop-n
invariant-loop-n l = AreTrue l.refit l.boxes.items l.n
