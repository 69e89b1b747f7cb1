use Rattle.std.proofs.Common.{subst, sym}
use Rattle.std.proofs.lemmas.Result.{on_ok_weaker}
use Rattle.ray_chains.specs.Keeping.{AreChains}
use Rattle.ray_chains.specs.Tables.{scopes_of}
use Rattle.ray_queues.specs.Events.{event_at}
use Rattle.ray_queue_check.specs.Arriving.{far_source, several_queues}
use Rattle.ray_queue_check.proofs.Moving.{several-acts, takes-far}
use Rattle.ray_queue_check.proofs.arriving.Arriving.limit_to.Goals as goal

pub returns : goal.returns
returns c =
    on_ok_weaker c.limit_to-5.result (λ last q at is z.
    let chains = subst (AreChains (event_at q) at c.args.n) (sym c.chains-chains.ensures) z.own.chains in
    record {
      own = last (several_queues q) at is.ids (several-acts q) is.is is.named z.own;
      zero = λ apart.
          c.in_ok-limit_to.ensures (several_queues q) (far_source 0) at is.ids (several-acts q) is.is
          (takes-far at 0 (scopes_of c.args.barrier.now) apart) is.named chains (z.zero apart);
      one = λ apart.
          c.in_ok-limit_to-2.ensures (several_queues q) (far_source 1) at is.ids (several-acts q) is.is
          (takes-far at 1 (scopes_of c.args.barrier.now) apart) is.named chains (z.one apart);
      two = λ apart.
          c.in_ok-limit_to-3.ensures (several_queues q) (far_source 2) at is.ids (several-acts q) is.is
          (takes-far at 2 (scopes_of c.args.barrier.now) apart) is.named chains (z.two apart);
      three = λ apart.
          c.in_ok-limit_to-4.ensures (several_queues q) (far_source 3) at is.ids (several-acts q) is.is
          (takes-far at 3 (scopes_of c.args.barrier.now) apart) is.named chains (z.three apart);
    })
    c.limit_to-5.ensures
