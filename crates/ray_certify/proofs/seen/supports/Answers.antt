use Rattle.ray_certify.proofs.PartsSame.{supports_same}
use Rattle.ray_certify.proofs.seen.supports.Goals as goal

pub returns-clause-exact : goal.returns-clause-exact
returns-clause-exact g c =
    let a = c.args in
    let inputs = a.seen.now.inputs in
    supports_same inputs.top.now.contents inputs.bottoms.now a.ray.now a.way.flags a.way.mask a.number (g.C.Client.meaning a.client.now) a.cert.now c.check_cert.result c.check_cert.ensures.exact
