use Rattle.ray_queues.proofs.arrived.Arrived.begin.Goals as goal

pub returns : goal.returns
returns c = λ q at n is z. record {
  zero = c.begin.ensures q 0 at n is.waits is.is is.met.zero z.zero;
  one = c.begin-2.ensures q 1 at n is.waits is.is is.met.one z.one;
  two = c.begin-3.ensures q 2 at n is.waits is.is is.met.two z.two;
  three = c.begin-4.ensures q 3 at n is.waits is.is is.met.three z.three;
}
