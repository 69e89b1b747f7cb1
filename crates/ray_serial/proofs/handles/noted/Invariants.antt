use Rattle.std.proofs.Common.{ℕ, ◌≡◌, ◌<◌, take, get_or, None}
use Rattle.ray_top.specs.Instances.{told_instance}
use Rattle.ray_serial.specs.TopWritten.{handles_of, FitsTold}
use Rattle.ray_serial.proofs.handles.noted.Given as goal

abbrev pub invariant-loop-i : goal.invariant-loop-i
invariant-loop-i l =
    (l.noted.keys ≡ handles_of (take l.i l.top.contents.instances))
    × ((k : ℕ) → k < l.i → FitsTold (told_instance (get_or l.top.contents.instances k None)))
