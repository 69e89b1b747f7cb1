use Rattle.std.proofs.Common.{arith, subst, sym}
use Rattle.ray_access.specs.Lists.{AreTouched}
use Rattle.ray_rules.specs.Hazards.{accesses_at, status_at}
use Rattle.ray_rules.specs.Order.{barriers}
use Rattle.ray_hazards.proofs.Checking.{v26-is}
use Rattle.ray_hazards.proofs.Reaching.{reach-touched}
use Rattle.ray_hazards.proofs.Starting.{starts-fewer}
use Rattle.ray_sync.proofs.check.v26.Goals as goal

pub returns : goal.returns
returns c = λ rec n lanes carried is have.
    let are =
    reach-touched (status_at rec n) c.args.cells.now (accesses_at rec n).writes _
    (subst (AreTouched (status_at rec n) (accesses_at rec n).writes) (sym c.as_slice-writes.ensures.value) is.writes)
    in
    v26-is (barriers rec) rec n c.args.doing.now.stage c.uncovered_at.result is.at
    (c.uncovered_at.ensures rec n _ lanes carried are (have.writes n (omega arith)) (starts-fewer rec c.args.cells.now n have))
