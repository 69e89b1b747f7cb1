use Rattle.std.proofs.Common.{◌≡◌, Ok}
use Rattle.std.specs.Prelude.{option_copied}
use Rattle.ray_top.specs.InstanceReading.{instances_read}
use Rattle.ray_top.proofs.reading.read.Given as goal

-- the instances so far
abbrev pub invariant-loop-i : goal.invariant-loop-i
invariant-loop-i l = instances_read l.used l.view (option_copied l.fn.olds) l.i ≡ Ok l.kept.items
