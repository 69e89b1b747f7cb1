use Rattle.ray_queues.proofs.arrived.Arrived.none.Goals as goal

pub returns : goal.returns
returns c = λ q at. record {
  zero = c.none.ensures q 0 at;
  one = c.none-2.ensures q 1 at;
  two = c.none-3.ensures q 2 at;
  three = c.none-4.ensures q 3 at;
}
