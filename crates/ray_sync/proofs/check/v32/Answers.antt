use Rattle.std.proofs.Common.{arith, subst, sym}
use Rattle.ray_access.specs.Lists.{AreTouched}
use Rattle.ray_rules.specs.Hazards.{status_at}
use Rattle.ray_rules.specs.Order.{barriers}
use Rattle.ray_hazards.specs.Lasts.{host_reads_at}
use Rattle.ray_hazards.proofs.Checking.{v32-is}
use Rattle.ray_hazards.proofs.Reaching.{reach-touched}
use Rattle.ray_hazards.proofs.Starting.{starts-fewer}
use Rattle.ray_sync.proofs.check.v32.Goals as goal

pub returns : goal.returns
returns c = λ rec n lanes carried is have.
    let are =
    reach-touched (status_at rec n) c.args.cells.now (host_reads_at rec n) _
    (subst (AreTouched (status_at rec n) (host_reads_at rec n)) (sym c.as_slice.ensures.value) is.host)
    in
    v32-is (barriers rec) rec n c.uncovered.result
    (c.uncovered.ensures rec n _ lanes carried are (have.host_reads n (omega arith)) (starts-fewer rec c.args.cells.now n have))
