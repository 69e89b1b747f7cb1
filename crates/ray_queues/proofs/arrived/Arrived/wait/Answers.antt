use Rattle.ray_queues.proofs.arrived.Arrived.wait.Goals as goal

pub returns : goal.returns
returns c = λ q at is z. record {
  zero = c.wait.ensures q 0 at is z.zero;
  one = c.wait-2.ensures q 1 at is z.one;
  two = c.wait-3.ensures q 2 at is z.two;
  three = c.wait-4.ensures q 3 at is z.three;
}
