use Rattle.ray_submits.proofs.Passing.{IsChecked}
use Rattle.ray_submits.proofs.check.check_semaphores.Given as goal

-- the commands so far are checked
abbrev pub invariant-loop-n : goal.invariant-loop-n
invariant-loop-n l = IsChecked l.rec l.n l.semaphores
