use Rattle.ray_permitted.proofs.Fetching.{runnable_orderly}
use Rattle.ray_permitted.proofs.Separating.{barriers_carry, orders_separate}
use Rattle.ray_permitted.proofs.laws.rules_give_order.Goals as goal

pub returns : goal.returns
returns c = record { ordered = runnable_orderly; separate = orders_separate; barriers = barriers_carry }
