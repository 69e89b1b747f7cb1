use Rattle.std.proofs.Common.{arith}
use Rattle.ray_hazards.proofs.Lasts.{last-all, last-next}
use Rattle.ray_queue_check.specs.Lanes.{MeetsWritten}
use Rattle.ray_queue_check.proofs.Finding.{moved-written}
use Rattle.ray_queue_check.proofs.hazards.last_uncovered.Goals as goal

pub loop-touch-preserved : goal.loop-touch-preserved
loop-touch-preserved c = λ low q n at used arriving.
    let cells = c.args.cells.now in
    last-next (MeetsWritten q cells n c.args.to) c.args.touches.now c.loop-touch.touch-index _ n c.loop-touch.last
    c.last_uncovered-one.result c.greater-last.result c.greater-last.ensures c.loop-touch-test.true (c.loop-touch.invariant low q n at used arriving)
    (moved-written q cells _ n _ _ _ _ _ _ _ (c.last_uncovered-one.ensures q cells n _ used (c.limits-limits.ensures low q n at arriving))
    c.at-start.ensures.value c.at-end.ensures.value)

pub returns : goal.returns
returns c = λ low q n at used arriving.
    let cells = c.args.cells.now in
    let after = c.loop-touch-test.false in
    let within = c.loop-touch.auto.touch-index-end in
    last-all (MeetsWritten q cells n c.args.to) c.args.touches.now c.loop-touch.touch-index n c.loop-touch.last
    (omega arith) (c.loop-touch.invariant low q n at used arriving)
