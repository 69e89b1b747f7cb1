use Rattle.std.proofs.Common.{◌≡◌, ◌++◌, take}
use Rattle.ray_serial.specs.TopWritten.{all_instance_bytes}
use Rattle.ray_serial.proofs.top_writing.append_all.Given as goal

abbrev pub invariant-loop-i : goal.invariant-loop-i
invariant-loop-i l = l.bytes.items ≡ l.fn.bytes.items ++ all_instance_bytes l.handles (take l.i l.top.contents.instances)
