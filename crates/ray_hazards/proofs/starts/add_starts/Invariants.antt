use Rattle.std.proofs.Common.{take}
use Rattle.ray_hazards.specs.Checks.{HasStarts}
use Rattle.ray_hazards.proofs.starts.add_starts.Given as goal

-- those of the touches so far are put
abbrev pub invariant-loop-touch : goal.invariant-loop-touch
invariant-loop-touch l = HasStarts (take l.touch-index l.touches) l.initial.set.keys l.set.keys
