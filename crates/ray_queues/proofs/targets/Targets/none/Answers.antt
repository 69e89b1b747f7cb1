use Rattle.ray_queues.proofs.targets.Targets.none.Goals as goal

pub returns : goal.returns
returns c = λ q. record {
  zero = c.none.ensures q 0;
  one = c.none-2.ensures q 1;
  two = c.none-3.ensures q 2;
  three = c.none-4.ensures q 3;
}
