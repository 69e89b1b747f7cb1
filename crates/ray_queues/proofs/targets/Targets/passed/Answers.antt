use Rattle.ray_queues.proofs.targets.Targets.passed.Goals as goal

pub returns : goal.returns
returns c = λ q is z. record {
  zero = c.passed.ensures q is z.zero;
  one = c.passed-2.ensures q is z.one;
  two = c.passed-3.ensures q is z.two;
  three = c.passed-4.ensures q is z.three;
}
