use Rattle.ray_cert.specs.Checking.{is_met_in}
use Rattle.ray_cert.proofs.Taking.{made-gone}
use Rattle.ray_cert.proofs.making.mark_root.Goals as goal

pub returns-in-None-clause-marks : goal.returns-in-None-clause-marks
returns-in-None-clause-marks g c =
    let a = c.args in
    made-gone (is_met_in a.object.now a.limit.now a.tree.now) a.tree.now a.digits.now.items c.in-None.ensures
