use Rattle.std.proofs.Common.{◌≡◌, ◌≤◌, length}
use Rattle.ray_rules.specs.Hazards.{status_at}
use Rattle.ray_rules.specs.Order.{barriers}
use Rattle.ray_hazards.specs.Carrying.{AreCarried}
use Rattle.ray_sync.specs.Hazards.{hazards_below}
use Rattle.ray_sync.specs.Kinds.{AreFronts}
use Rattle.ray_sync.specs.OneQueue.{in_order, one_queue}
use Rattle.ray_hazards.specs.Lanes.{AreLanes}
use Rattle.ray_hazards.specs.Reaching.{AreTops}
use Rattle.ray_sync.proofs.check.found_below.Given as goal

abbrev pub invariant-loop-n : goal.invariant-loop-n
invariant-loop-n l = record {
  status : l.status ≡ status_at l.rec l.n;
  lanes : AreLanes (in_order l.rec) l.cells l.n l.lanes;
  coverage : AreCarried (one_queue l.rec) 0 l.n l.coverage;
  fronts : AreFronts l.rec l.n l.fronts;
  tops : AreTops l.rec l.cells l.status l.tops;
  found : l.found.items ≡ hazards_below (barriers l.rec) l.rec l.n;
  few : length l.found.items ≤ l.most;
}
