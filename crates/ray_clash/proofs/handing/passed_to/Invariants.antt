use Rattle.ray_clash.proofs.Handed.{IsGoing}
use Rattle.ray_clash.proofs.handing.passed_to.Given as goal

-- how far it has been handed on so far
abbrev pub invariant-loop-n : goal.invariant-loop-n
invariant-loop-n l = IsGoing l.rec l.i l.asking l.n l.status l.passed
