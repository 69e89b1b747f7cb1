use Rattle.std.proofs.Common.{arith}
use Rattle.ray_hazards.specs.Lanes.{MeetsUnordered}
use Rattle.ray_hazards.proofs.Laning.{moved-reads}
use Rattle.ray_hazards.proofs.Lasts.{last-all, last-next}
use Rattle.ray_sync.specs.OneQueue.{in_order}
use Rattle.ray_sync.proofs.hazards.last_unordered.Goals as goal

pub loop-touch-preserved : goal.loop-touch-preserved
loop-touch-preserved c = λ rec n to are ordered.
    let cells = c.args.cells.now in
    last-next (MeetsUnordered (in_order rec) cells n to) c.args.touches.now c.loop-touch.touch-index _ n c.loop-touch.last
    c.last_unordered-one.result c.greater-last.result c.greater-last.ensures c.loop-touch-test.true (c.loop-touch.invariant rec n to are ordered)
    (moved-reads _ _ _ _ _ _ _ _ _ (c.last_unordered-one.ensures (in_order rec) cells n to are ordered)
    c.at-start.ensures.value c.at-end.ensures.value)

pub returns : goal.returns
returns c = λ rec n to are ordered.
    let cells = c.args.cells.now in
    let after = c.loop-touch-test.false in
    let within = c.loop-touch.auto.touch-index-end in
    last-all (MeetsUnordered (in_order rec) cells n to) c.args.touches.now c.loop-touch.touch-index n c.loop-touch.last
    (omega arith) (c.loop-touch.invariant rec n to are ordered)
