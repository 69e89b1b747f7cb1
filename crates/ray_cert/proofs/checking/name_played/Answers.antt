use Rattle.ray_cert.proofs.Deciding.{named-played}
use Rattle.ray_cert.proofs.checking.name_played.Goals as goal

pub returns : goal.returns
returns g c =
    named-played (g.C.Client.meaning c.args.client.now) c.args.number c.args.flags c.initialize-query.result c.play.new.self
    c.put_in_order.new.found.items c.as_slice.result.now c.args.found.items c.committed.result c.name_of.result
    c.initialize-query.ensures c.put_in_order.ensures c.as_slice.ensures.value c.play.ensures c.committed.ensures c.name_of.ensures
