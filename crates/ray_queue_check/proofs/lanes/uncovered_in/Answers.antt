use Rattle.std.proofs.Common.{subst}
use Rattle.ray_queue_check.specs.Lanes.{IsUsed, from_queue}
use Rattle.ray_queue_check.proofs.Using.{none-uncovered}
use Rattle.ray_queue_check.proofs.lanes.uncovered_in.Goals as goal

pub returns-in-Some : goal.returns-in-Some
returns-in-Some c = λ q from starts n accessed used covered.
    c.last_uncovered.ensures (from_queue q from) starts n accessed (subst (IsUsed q from starts n) c.in-Some.is used) covered

pub returns-in-None : goal.returns-in-None
returns-in-None c = λ q from starts n accessed used covered.
    none-uncovered (from_queue q from) starts accessed.thing n accessed.stage accessed.access c.args.start c.args.end
    (subst (IsUsed q from starts n) c.in-None.is used)
