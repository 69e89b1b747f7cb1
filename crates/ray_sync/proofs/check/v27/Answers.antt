use Rattle.std.proofs.Common.{arith, subst, sym}
use Rattle.ray_access.specs.Lists.{AreTouched}
use Rattle.ray_rules.specs.Hazards.{accesses_at, status_at}
use Rattle.ray_rules.specs.Order.{barriers}
use Rattle.ray_hazards.proofs.Checking.{v27-is}
use Rattle.ray_hazards.proofs.Starting.{starts-fewer}
use Rattle.ray_sync.proofs.check.v27.Goals as goal

pub returns : goal.returns
returns c = λ rec lanes fronts is have.
    let are = subst (AreTouched (status_at rec c.args.n) (accesses_at rec c.args.n).writes) (sym c.as_slice-writes.ensures.value) is.writes in
    v27-is (barriers rec) rec c.args.n c.args.doing.now.stage c.unordered_at.result is.at
    (c.unordered_at.ensures rec _ lanes fronts are (have.writes c.args.n (omega arith)) (starts-fewer rec c.args.cells.now c.args.n have))
