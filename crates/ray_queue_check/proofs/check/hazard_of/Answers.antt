use Rattle.std.proofs.Common.{◌∙◌}
use Rattle.ray_hazards.proofs.Checking.{hazard-is}
use Rattle.ray_queues.specs.QueueOrder.{queue_order}
use Rattle.ray_queue_check.proofs.check.hazard_of.Goals as goal

pub returns : goal.returns
returns c = λ q of kept is have.
    let n = c.args.n in
    c.least.ensures
    ∙ hazard-is (queue_order q) q.commands n c.v25-read.result c.v26-written.result c.v27-overwritten.result c.v32-shown.result
    (c.v25-read.ensures q n of kept is have) (c.v26-written.ensures q n of kept is have) (c.v27-overwritten.ensures q n of kept is have)
    (c.v32-shown.ensures q n of kept is have)
