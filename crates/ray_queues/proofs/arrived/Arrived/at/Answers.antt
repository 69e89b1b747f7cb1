use Rattle.ray_queues.proofs.arrived.Arrived.at.Goals as goal

pub returns : goal.returns
returns c = λ q at n z. record {
  zero = c.at.ensures q 0 at n z.zero;
  one = c.at-2.ensures q 1 at n z.one;
  two = c.at-3.ensures q 2 at n z.two;
  three = c.at-4.ensures q 3 at n z.three;
}
