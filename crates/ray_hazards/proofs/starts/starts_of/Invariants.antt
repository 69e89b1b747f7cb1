use Rattle.std.proofs.Common.{◌≡◌}
use Rattle.ray_rules.specs.Hazards.{status_at}
use Rattle.ray_hazards.specs.Checks.{AreStartedTops}
use Rattle.ray_hazards.specs.Lasts.{HaveStarts}
use Rattle.ray_hazards.proofs.starts.starts_of.Given as goal

abbrev pub invariant-loop-n : goal.invariant-loop-n
invariant-loop-n l = record {
  status : l.status ≡ status_at l.rec l.n;
  starts : HaveStarts l.rec l.set.keys l.n;
  tops : AreStartedTops l.rec l.status l.set.keys l.known.keys;
}
