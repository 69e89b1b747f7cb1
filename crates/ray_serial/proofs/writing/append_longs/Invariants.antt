use Rattle.std.proofs.Common.{◌≡◌, ◌++◌, take}
use Rattle.ray_serial.specs.Written.{long_bytes}
use Rattle.ray_serial.proofs.writing.append_longs.Given as goal

abbrev pub invariant-loop-number : goal.invariant-loop-number
invariant-loop-number l = l.bytes.items ≡ l.fn.bytes.items ++ long_bytes (take l.number-index l.numbers)
