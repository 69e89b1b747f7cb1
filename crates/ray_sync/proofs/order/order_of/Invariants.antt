use Rattle.std.proofs.Common.{◌≡◌, length}
use Rattle.ray_sync.specs.Kinds.{AreFronts}
use Rattle.ray_sync.specs.Rows.{AreBests, IsBest, IsOrderOf}
use Rattle.ray_sync.proofs.order.order_of.Given as goal

abbrev pub invariant-loop-n : goal.invariant-loop-n
invariant-loop-n l = record {
  fronts : AreFronts l.rec l.n l.fronts;
  best : IsBest l.rec l.n l.best;
  bests : AreBests l.rec l.n l.bests.items;
  many : length l.rows.items ≡ l.n;
  rows : IsOrderOf l.rec l.rows.items;
}
