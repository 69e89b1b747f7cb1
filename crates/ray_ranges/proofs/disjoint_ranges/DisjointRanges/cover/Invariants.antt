use Rattle.std.proofs.Common.{◌≡◌, ◌<◌, ◌||◌, ℕ, length}
use Rattle.ray_ranges.specs.Meeting.{has, covers}
use Rattle.ray_ranges.proofs.disjoint_ranges.DisjointRanges.cover.Given as goal

abbrev pub invariant-loop-part : goal.invariant-loop-part
invariant-loop-part l = record {
  some : l.whole.from < l.whole.end;
  numbers : (n : ℕ) → (has n l.whole || covers l.self n) ≡ (has n l.fn.range || covers l.initial.self n);
}

abbrev pub decreases-loop-part : goal.decreases-loop-part
decreases-loop-part l = length l.self
