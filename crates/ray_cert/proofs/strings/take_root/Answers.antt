use Rattle.ray_cert.specs.Checking.{is_met_in}
use Rattle.ray_cert.proofs.Taking.{taken-gone}
use Rattle.ray_cert.proofs.strings.take_root.Goals as goal

pub returns-in-None-clause-value : goal.returns-in-None-clause-value
returns-in-None-clause-value g c =
    let a = c.args in
    taken-gone (is_met_in a.object.now a.limit.now a.tree.now) a.tree.now a.items.now.items a.digits.now c.in-None.ensures
