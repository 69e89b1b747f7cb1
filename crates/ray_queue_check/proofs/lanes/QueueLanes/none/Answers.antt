use Rattle.std.proofs.Common.{arith}
use Rattle.ray_queue_check.proofs.lanes.QueueLanes.none.Goals as goal

pub returns : goal.returns
returns c = λ q starts. record {
  zero = λ i l. absurd (omega (arith, l));
  one = λ i l. absurd (omega (arith, l));
  two = λ i l. absurd (omega (arith, l));
  three = λ i l. absurd (omega (arith, l));
}
