use Rattle.std.proofs.Common.{arith}
use Rattle.ray_hazards.proofs.Lasts.{last-all, last-next}
use Rattle.ray_queue_check.specs.Lanes.{MeetsRead}
use Rattle.ray_queue_check.proofs.Finding.{moved-read}
use Rattle.ray_queue_check.proofs.hazards.last_unordered.Goals as goal

pub loop-touch-preserved : goal.loop-touch-preserved
loop-touch-preserved c = λ q n to used ordered.
    let cells = c.args.cells.now in
    last-next (MeetsRead q cells n to) c.args.touches.now c.loop-touch.touch-index _ n c.loop-touch.last
    c.last_unordered-one.result c.greater-last.result c.greater-last.ensures c.loop-touch-test.true (c.loop-touch.invariant q n to used ordered)
    (moved-read q cells n _ _ _ _ _ _ (c.last_unordered-one.ensures q cells n to used ordered)
    c.at-start.ensures.value c.at-end.ensures.value)

pub returns : goal.returns
returns c = λ q n to used ordered.
    let cells = c.args.cells.now in
    let after = c.loop-touch-test.false in
    let within = c.loop-touch.auto.touch-index-end in
    last-all (MeetsRead q cells n to) c.args.touches.now c.loop-touch.touch-index n c.loop-touch.last
    (omega arith) (c.loop-touch.invariant q n to used ordered)
