use Rattle.std.proofs.Common.{subst, sym}
use Rattle.ray_hazards.specs.Lanes.{AreOrdered}
use Rattle.ray_queue_check.specs.Lanes.{IsUsed, from_queue}
use Rattle.ray_queue_check.proofs.Using.{none-unordered}
use Rattle.ray_queue_check.proofs.lanes.unordered_in.Goals as goal

pub returns-in-Some : goal.returns-in-Some
returns-in-Some c = λ q from starts n to used ordered.
    c.last_unordered.ensures (from_queue q from) starts n to (subst (IsUsed q from starts n) c.in-Some.is used)
    (subst (AreOrdered (from_queue q from) n to) (sym c.stage_limits.ensures) ordered)

pub returns-in-None : goal.returns-in-None
returns-in-None c = λ q from starts n to used ordered.
    none-unordered (from_queue q from) starts n to c.args.start c.args.end
    (subst (IsUsed q from starts n) c.in-None.is used)
