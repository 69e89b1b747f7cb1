use Rattle.std.proofs.Common.{◌≡◌, take}
use Rattle.ray_exec.specs.Waves.{pieces_below}
use Rattle.ray_exec.proofs.wave.pieces_below.Given as goal

abbrev pub invariant-loop-command : goal.invariant-loop-command
invariant-loop-command l = l.pieces.items ≡ pieces_below l.rec l.bound (take l.command-index l.commands)
