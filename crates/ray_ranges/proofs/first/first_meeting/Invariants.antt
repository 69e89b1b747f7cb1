use Rattle.std.proofs.Common.{◌≡◌, ◌<◌, ◌++◌, ℕ, take, false}
use Rattle.ray_ranges.specs.Meeting.{covers}
use Rattle.ray_ranges.specs.First.{meets_before}
use Rattle.ray_ranges.proofs.first.first_meeting.Given as goal

abbrev pub invariant-loop-k : goal.invariant-loop-k
invariant-loop-k l = record {
  numbers : (n : ℕ) → covers l.taken n ≡ covers (l.fn.others ++ take l.k l.fn.ranges) n;
  none : (j : ℕ) → j < l.k → meets_before l.fn.ranges l.fn.others j ≡ false;
}
