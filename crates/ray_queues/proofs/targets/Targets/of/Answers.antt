use Rattle.std.proofs.Common.{◌≡◌, arith, subst}
use Rattle.ray_queues.specs.Sources.{IsArrived}
use Rattle.ray_queues.proofs.targets.Targets.of.Goals as goal

pub returns-in_default : goal.returns-in_default
returns-in_default c = λ low q n z.
    let not = c.in_default in
    let same : 3 ≡ c.args.queue = omega arith in
    subst (λ k. IsArrived q k n c.args.self.now.three) same z.three
