use Rattle.std.proofs.Common.{◌≡◌}
use Rattle.ray_rules.specs.Hazards.{status_at}
use Rattle.ray_causes.proofs.finding.status_before.Given as goal

-- the status is that of the commands so far
abbrev pub invariant-loop-i : goal.invariant-loop-i
invariant-loop-i l = l.status ≡ status_at l.rec l.i
