use Rattle.ray_queues.proofs.Reaching.{adds-more}
use Rattle.ray_queues.proofs.marks.Marks.signal.Goals as goal

pub loop-point-preserved : goal.loop-point-preserved
loop-point-preserved c =
    adds-more c.args.n c.loop-point.point-index c.args.numbers c.args.signals.now _ c.args.self.now c.loop-point.self c.raise.new.self
    c.loop-point-test.true c.loop-point.invariant c.in_ok-raise.ensures
