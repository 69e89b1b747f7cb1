use Rattle.std.proofs.Common.{arith, subst, sym}
use Rattle.ray_hazards.specs.Reaching.{AreReached}
use Rattle.ray_rules.specs.Hazards.{accesses_at, status_at}
use Rattle.ray_rules.specs.Order.{barriers}
use Rattle.ray_hazards.proofs.Checking.{v25-is}
use Rattle.ray_hazards.proofs.Starting.{starts-fewer}
use Rattle.ray_sync.proofs.check.v25.Goals as goal

pub returns : goal.returns
returns c = λ rec n lanes carried is have.
    let are = subst (AreReached (status_at rec n) c.args.cells.now (accesses_at rec n).reads) (sym c.as_slice-reads.ensures.value) is.reads in
    v25-is (barriers rec) rec n c.args.doing.now.stage c.uncovered_at.result is.at
    (c.uncovered_at.ensures rec n _ lanes carried are (have.reads n (omega arith)) (starts-fewer rec c.args.cells.now n have))
