use Rattle.std.proofs.Common.{◌<◌, ◌≤◌}
use Rattle.ray_clash.proofs.finding.last_end.Given as goal

-- what was found stands between
abbrev pub invariant-loop-n : goal.invariant-loop-n
invariant-loop-n l = (l.i < l.last) × (l.last ≤ l.j)
