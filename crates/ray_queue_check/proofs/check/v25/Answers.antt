use Rattle.std.proofs.Common.{arith, subst, sym}
use Rattle.ray_hazards.specs.Reaching.{AreReached}
use Rattle.ray_hazards.proofs.Checking.{v25-is}
use Rattle.ray_hazards.proofs.Starting.{starts-fewer}
use Rattle.ray_queues.specs.QueueOrder.{queue_order}
use Rattle.ray_rules.specs.Hazards.{accesses_at, status_at}
use Rattle.ray_queue_check.proofs.check.v25.Goals as goal

pub returns : goal.returns
returns c = λ q n of kept is have.
    let rec = q.commands in
    let are = subst (AreReached (status_at rec n) c.args.cells.now (accesses_at rec n).reads) (sym c.as_slice.ensures.value) is.reads in
    v25-is (queue_order q) rec n c.args.doing.now.stage c.uncovered_at.result is.at
    (c.uncovered_at.ensures q n _ of kept are (have.reads n (omega arith)) (starts-fewer rec c.args.cells.now n have))
