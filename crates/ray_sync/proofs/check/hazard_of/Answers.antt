use Rattle.std.proofs.Common.{◌∙◌}
use Rattle.ray_rules.specs.Order.{barriers}
use Rattle.ray_hazards.proofs.Checking.{hazard-is}
use Rattle.ray_sync.proofs.check.hazard_of.Goals as goal

pub returns : goal.returns
returns c = λ rec lanes carried fronts is have.
    c.least.ensures
    ∙ hazard-is (barriers rec) rec c.args.n c.v25-read.result c.v26-written.result c.v27-overwritten.result c.v32-shown.result
    (c.v25-read.ensures rec c.args.n lanes carried is have) (c.v26-written.ensures rec c.args.n lanes carried is have)
    (c.v27-overwritten.ensures rec lanes fronts is have) (c.v32-shown.ensures rec c.args.n lanes carried is have)
