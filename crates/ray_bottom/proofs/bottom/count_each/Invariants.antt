use Rattle.std.proofs.Common.{◌≡◌, ◌+◌}
use Rattle.ray_bottom.proofs.bottom.count_each.Given as goal

-- the steps so far
abbrev pub invariant-loop-k : goal.invariant-loop-k
invariant-loop-k g l = l.steps ≡ l.initial.steps + l.k
