use Rattle.std.proofs.Common.{◌+◌, length, subst, sym}
use Rattle.ray_queue_check.specs.Lanes.{AreLow, IsUsed, from_queue}
use Rattle.ray_queue_check.proofs.Using.{new-low}
use Rattle.ray_queue_check.proofs.lanes.lanes_or_new.Goals as goal

pub returns-in-Some-clause-below : goal.returns-in-Some-clause-below
returns-in-Some-clause-below c = λ n low. subst (AreLow (length c.args.cells.now) (n + 1)) c.in-Some.is low

pub returns-in-None-clause-below : goal.returns-in-None-clause-below
returns-in-None-clause-below c = λ n low.
    new-low c.args.cells.now n c.new.result (λ counted none. c.new.ensures counted c.args.cells.now n (sym c.count.ensures) none)

pub returns-in-None-clause-used : goal.returns-in-None-clause-used
returns-in-None-clause-used c = λ q from n is.
    c.new.ensures (from_queue q from) c.args.cells.now n (sym c.count.ensures)
    (subst (IsUsed q from c.args.cells.now n) c.in-None.is is)
