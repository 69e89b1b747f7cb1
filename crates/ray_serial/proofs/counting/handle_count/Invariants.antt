use Rattle.std.proofs.Common.{◌≡◌, ◌≤◌, length, take}
use Rattle.ray_serial.specs.TopWritten.{handles_of}
use Rattle.ray_serial.proofs.counting.handle_count.Given as goal

abbrev pub invariant-loop-i : goal.invariant-loop-i
invariant-loop-i l = (l.count ≡ length (handles_of (take l.i l.top.contents.instances))) × (l.count ≤ l.i)
