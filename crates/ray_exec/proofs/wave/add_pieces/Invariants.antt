use Rattle.std.proofs.Common.{◌≡◌, ◌++◌, map}
use Rattle.std.specs.List.{range_with_len}
use Rattle.ray_exec.specs.Waves.{part}
use Rattle.ray_exec.proofs.wave.add_pieces.Given as goal

abbrev pub invariant-loop-part : goal.invariant-loop-part
invariant-loop-part l = l.pieces.items ≡ l.fn.pieces.items ++ map (part l.command) (range_with_len 0 l.part)
