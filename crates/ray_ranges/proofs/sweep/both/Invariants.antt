use Rattle.std.proofs.Common.{◌≡◌, ◌++◌, take, map}
use Rattle.ray_ranges.specs.Sweep.{own, other}
use Rattle.ray_ranges.proofs.sweep.both.Given as goal

abbrev pub invariant-loop-range : goal.invariant-loop-range
invariant-loop-range l = l.all.items ≡ map own (take l.range-index l.ranges)

abbrev pub invariant-loop-range-2 : goal.invariant-loop-range-2
invariant-loop-range-2 l = l.all.items ≡ map own l.ranges ++ map other (take l.range-index l.others)
