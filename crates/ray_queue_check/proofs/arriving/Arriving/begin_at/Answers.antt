use Rattle.std.proofs.Common.{subst}
use Rattle.ray_queue_check.specs.Arriving.{IsBegun}
use Rattle.ray_queue_check.proofs.Moving.{begin-elsewhere}
use Rattle.ray_queue_check.proofs.arriving.Arriving.begin_at.Goals as goal

pub returns-then-queue-at : goal.returns-then-queue-at
returns-then-queue-at c = λ low q is z.
    c.begin.ensures q c.args.at (subst (λ k. IsBegun q c.args.n k c.args.numbers.now) c.if-queue-at.true is)
    (λ waits met. c.number_of.ensures low q c.args.n waits met) z

pub returns-else-queue-at : goal.returns-else-queue-at
returns-else-queue-at c = λ low q is z.
    begin-elsewhere q c.args.at c.args.n c.args.queue is.waits c.args.self.now c.if-queue-at.false is.is z
