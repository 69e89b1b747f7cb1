use Rattle.ray_candidates.specs.Standing.{structures_in}
use Rattle.ray_candidates.proofs.Playing.{apart_gathered, played}
use Rattle.ray_candidates.proofs.plain.trace_plain.Goals as goal

pub put_in_order-requires : goal.put_in_order-requires
put_in_order-requires g c =
    apart_gathered c.args.top.now.contents (structures_in c.args.bottoms.now) c.args.ray.now c.args.options.flags c.args.options.mask c.in_ok-found.found.items
    c.in_ok-found.ensures.value

pub returns-clause-answer : goal.returns-clause-answer
returns-clause-answer g c =
    played c.args.top.now.contents (structures_in c.args.bottoms.now) c.args.ray.now c.args.options.flags c.args.options.mask c.in_ok-found.found.items
    c.in_ok-found.ensures.value (g.C.Client.meaning c.args.client.now) c.args.options.number c.initialize-query.result c.play.new.self
    c.put_in_order.new.found.items c.as_slice.result.now c.committed.result
    c.initialize-query.ensures c.put_in_order.ensures c.as_slice.ensures.value c.play.ensures c.committed.ensures
