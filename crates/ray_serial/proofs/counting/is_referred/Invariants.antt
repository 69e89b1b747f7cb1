use Rattle.std.proofs.Common.{◌≡◌, false, take}
use Rattle.std.specs.List.{list_any}
use Rattle.ray_serial.specs.TopWritten.{refers_to}
use Rattle.ray_serial.proofs.counting.is_referred.Given as goal

abbrev pub invariant-loop-i : goal.invariant-loop-i
invariant-loop-i l = list_any (refers_to l.id) (take l.i l.top.contents.instances) ≡ false
