use Rattle.ray_submits.proofs.Odds.{IsPassed}
use Rattle.ray_submits.proofs.semaphores.Semaphores.odd.Given as goal

-- the signals so far are passed
abbrev pub invariant-loop-k : goal.invariant-loop-k
invariant-loop-k l = IsPassed l.queue l.signals l.k l.fn.self l.self
