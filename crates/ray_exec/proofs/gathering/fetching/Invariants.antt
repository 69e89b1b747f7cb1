use Rattle.std.proofs.Common.{◌≤◌}
use Rattle.ray_exec.proofs.gathering.fetching.Given as goal

abbrev pub invariant-loop-piece : goal.invariant-loop-piece
invariant-loop-piece l = l.fetching ≤ l.workers
