use Rattle.ray_queue_check.proofs.everywhere.Everywhere.new.Goals as goal

pub returns : goal.returns
returns c = λ q. record {
  zero = c.new.ensures q 0;
  one = c.new-2.ensures q 1;
  two = c.new-3.ensures q 2;
  three = c.new-4.ensures q 3;
}
