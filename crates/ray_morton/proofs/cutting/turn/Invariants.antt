use Rattle.std.proofs.Common.{◌-◌}
use Rattle.ray_morton.proofs.Turns.{IsBetween}
use Rattle.ray_morton.proofs.cutting.turn.Given as goal

abbrev pub invariant-loop-below : goal.invariant-loop-below
invariant-loop-below l = IsBetween l.keys l.bit l.part l.below l.from

abbrev pub decreases-loop-below : goal.decreases-loop-below
decreases-loop-below l = l.from - l.below
