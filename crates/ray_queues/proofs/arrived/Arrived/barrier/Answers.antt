use Rattle.ray_queues.proofs.arrived.Arrived.barrier.Goals as goal

pub returns : goal.returns
returns c = λ q is z. record {
  zero = c.barrier.ensures q 0 c.args.at is c.is_queue.ensures z.zero;
  one = c.barrier-2.ensures q 1 c.args.at is c.is_queue-2.ensures z.one;
  two = c.barrier-3.ensures q 2 c.args.at is c.is_queue-3.ensures z.two;
  three = c.barrier-4.ensures q 3 c.args.at is c.is_queue-4.ensures z.three;
}
