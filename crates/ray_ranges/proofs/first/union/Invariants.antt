use Rattle.std.proofs.Common.{◌≡◌, ℕ, take}
use Rattle.ray_ranges.specs.Meeting.{covers}
use Rattle.ray_ranges.proofs.first.union.Given as goal

abbrev pub invariant-loop-range : goal.invariant-loop-range
invariant-loop-range l = (n : ℕ) → covers l.set n ≡ covers (take l.range-index l.ranges) n
