use Rattle.std.proofs.Common.{◌≡◌, length, map}
use Rattle.ray_queues.specs.declared.order.Row.{Row}
use Rattle.ray_queues.specs.Keeping.{IsKeeping}
use Rattle.ray_queues.specs.Rows.{AreBests, IsBest, IsQueueOrderOf}
use Rattle.ray_queues.proofs.order.queue_waves.Given as goal

-- of the commands so far
abbrev pub invariant-loop-n : goal.invariant-loop-n
invariant-loop-n l = record {
  keeping : IsKeeping l.rec l.n l.keeping;
  best : IsBest l.rec l.n l.best;
  bests : AreBests l.rec l.n l.bests.items;
  many : length l.rows.items ≡ l.n;
  rows : IsQueueOrderOf l.rec l.rows.items;
  waves : l.waves.items ≡ map (λ (row : Row). row.wave) l.rows.items;
}
