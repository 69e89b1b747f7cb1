use Rattle.ray_queue_check.specs.Arriving.{far_source, several_queues}
use Rattle.ray_queue_check.proofs.arriving.Arriving.new.Goals as goal

pub returns : goal.returns
returns c = λ q queue. record {
  own = c.new.ensures (several_queues q) queue;
  zero = λ apart. c.new-2.ensures (several_queues q) (far_source 0) queue;
  one = λ apart. c.new-3.ensures (several_queues q) (far_source 1) queue;
  two = λ apart. c.new-4.ensures (several_queues q) (far_source 2) queue;
  three = λ apart. c.new-5.ensures (several_queues q) (far_source 3) queue;
}
