use Rattle.ray_exec.specs.Waves.{AreWavesOf}
use Rattle.ray_exec.proofs.wave.waves_of.Given as goal

abbrev pub invariant-loop-command : goal.invariant-loop-command
invariant-loop-command l = AreWavesOf l.ranks l.until l.command l.waves.items
