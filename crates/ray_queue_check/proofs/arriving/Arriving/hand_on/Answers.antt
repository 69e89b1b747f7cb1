use Rattle.ray_chains.specs.Tables.{scopes_of}
use Rattle.ray_queue_check.specs.Arriving.{far_source, several_queues}
use Rattle.ray_queue_check.proofs.Moving.{several-acts, takes-far}
use Rattle.ray_queue_check.proofs.arriving.Arriving.hand_on.Goals as goal

pub returns : goal.returns
returns c = λ q at event z. record {
  own = c.hand_on.ensures (several_queues q) at (several-acts q) event z.own;
  zero = λ apart.
      c.hand_on-2.ensures (several_queues q) (far_source 0) at (several-acts q) event
      (takes-far at 0 (scopes_of c.args.barrier.now) apart) (z.zero apart);
  one = λ apart.
      c.hand_on-3.ensures (several_queues q) (far_source 1) at (several-acts q) event
      (takes-far at 1 (scopes_of c.args.barrier.now) apart) (z.one apart);
  two = λ apart.
      c.hand_on-4.ensures (several_queues q) (far_source 2) at (several-acts q) event
      (takes-far at 2 (scopes_of c.args.barrier.now) apart) (z.two apart);
  three = λ apart.
      c.hand_on-5.ensures (several_queues q) (far_source 3) at (several-acts q) event
      (takes-far at 3 (scopes_of c.args.barrier.now) apart) (z.three apart);
}
