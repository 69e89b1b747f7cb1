use Rattle.std.proofs.Common.{subst, sym}
use Rattle.ray_chains.specs.Keeping.{AreChains}
use Rattle.ray_queues.specs.Events.{event_at}
use Rattle.ray_queue_check.specs.Arriving.{far_source, several_queues}
use Rattle.ray_queue_check.proofs.Moving.{reached-one, several-acts}
use Rattle.ray_queue_check.proofs.arriving.Arriving.limits.Goals as goal

pub returns : goal.returns
returns c = λ q n z.
    let a = several_queues q in
    let acts = several-acts q in
    let at = c.args.queue in
    let own = c.limits-own.ensures a at n acts z.own in
    let chains = subst (AreChains (event_at q) at n) (sym c.chains-chains.ensures) z.own.chains in
    record {
      zero =
          reached-one q 0 at c.args.thing n c.args.stage c.args.access c.is_queue.result c.limits-own.result
          c.limit-zero.result c.own_or.result c.is_queue.ensures c.own_or.ensures own
          (λ apart. c.limit-zero.ensures a (far_source 0) at n acts (z.zero apart) chains);
      one =
          reached-one q 1 at c.args.thing n c.args.stage c.args.access c.is_queue-2.result c.limits-own.result
          c.limit-one.result c.own_or-2.result c.is_queue-2.ensures c.own_or-2.ensures own
          (λ apart. c.limit-one.ensures a (far_source 1) at n acts (z.one apart) chains);
      two =
          reached-one q 2 at c.args.thing n c.args.stage c.args.access c.is_queue-3.result c.limits-own.result
          c.limit-two.result c.own_or-3.result c.is_queue-3.ensures c.own_or-3.ensures own
          (λ apart. c.limit-two.ensures a (far_source 2) at n acts (z.two apart) chains);
      three =
          reached-one q 3 at c.args.thing n c.args.stage c.args.access c.is_queue-4.result c.limits-own.result
          c.limit-three.result c.own_or-4.result c.is_queue-4.ensures c.own_or-4.ensures own
          (λ apart. c.limit-three.ensures a (far_source 3) at n acts (z.three apart) chains);
    }
