use Rattle.std.proofs.Common.{◌≡◌}
use Rattle.std.specs.Prelude.{None}
use Rattle.ray_queues.specs.QueueOrder.{queue_order}
use Rattle.ray_hazards.specs.Reaching.{AreTops}
use Rattle.ray_rules.specs.Hazards.{status_at}
use Rattle.ray_rules.specs.Verdict.{first_hazard}
use Rattle.ray_queue_check.specs.Kept.{IsKept}
use Rattle.ray_queue_check.proofs.check.checked.Given as goal

abbrev pub invariant-loop-n : goal.invariant-loop-n
invariant-loop-n l = record {
  status : l.status ≡ status_at l.rec.commands l.n;
  kept : IsKept l.rec l.cells l.n l.kept;
  tops : AreTops l.rec.commands l.cells l.status l.tops;
  none : first_hazard (queue_order l.rec) l.rec.commands l.n ≡ None;
}
