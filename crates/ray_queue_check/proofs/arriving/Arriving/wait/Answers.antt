use Rattle.ray_queue_check.specs.Arriving.{far_source, several_queues}
use Rattle.ray_queue_check.proofs.Moving.{several-acts}
use Rattle.ray_queue_check.proofs.arriving.Arriving.wait.Goals as goal

pub returns : goal.returns
returns c = λ q at event z. record {
  own = c.wait.ensures (several_queues q) at (several-acts q) event z.own;
  zero = λ apart. c.wait-2.ensures (several_queues q) (far_source 0) at (several-acts q) event (z.zero apart);
  one = λ apart. c.wait-3.ensures (several_queues q) (far_source 1) at (several-acts q) event (z.one apart);
  two = λ apart. c.wait-4.ensures (several_queues q) (far_source 2) at (several-acts q) event (z.two apart);
  three = λ apart. c.wait-5.ensures (several_queues q) (far_source 3) at (several-acts q) event (z.three apart);
}
