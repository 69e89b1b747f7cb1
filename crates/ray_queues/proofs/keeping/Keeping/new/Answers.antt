use Rattle.std.proofs.Common.{arith, refl}
use Rattle.ray_queues.proofs.keeping.Keeping.new.Goals as goal

pub returns : goal.returns
returns c = λ q. record { targets = c.none.ensures q; marks = c.new.ensures q; waited = refl; low = omega arith }
