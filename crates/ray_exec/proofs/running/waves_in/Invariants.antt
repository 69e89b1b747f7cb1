use Rattle.ray_exec.specs.Waves.{AreLongest}
use Rattle.ray_exec.proofs.running.waves_in.Given as goal

-- the numbers so far
abbrev pub invariant-loop-command : goal.invariant-loop-command
invariant-loop-command l = AreLongest l.fn.rec l.command l.waves.items
