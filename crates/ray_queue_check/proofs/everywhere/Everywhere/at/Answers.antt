use Rattle.std.proofs.Common.{◌≡◌, arith, subst}
use Rattle.ray_queue_check.specs.Arriving.{number_to}
use Rattle.ray_queue_check.specs.Numbers.{AreSources}
use Rattle.ray_queue_check.proofs.everywhere.Everywhere.at.Goals as goal

pub returns-in_default : goal.returns-in_default
returns-in_default c = λ low q n z.
    let not = c.in_default in
    let same : 3 ≡ c.args.queue = omega arith in
    subst (λ k. AreSources (number_to q c.args.thing n k c.args.stage c.args.access) c.limits-in_default.result) same
    (c.limits-in_default.ensures q n z.three)
