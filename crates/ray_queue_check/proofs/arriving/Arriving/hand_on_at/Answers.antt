use Rattle.std.proofs.Common.{◌≡◌, None, subst}
use Rattle.ray_chains.specs.Queues.{Barrier}
use Rattle.ray_chains.specs.Tables.{scopes_of}
use Rattle.ray_queues.specs.Events.{event_at}
use Rattle.ray_queue_check.proofs.Moving.{barrier-elsewhere}
use Rattle.ray_queue_check.proofs.arriving.Arriving.hand_on_at.Goals as goal

pub returns-then-queue-at : goal.returns-then-queue-at
returns-then-queue-at c = λ q event z.
    c.hand_on.ensures q c.args.at
    (subst (λ k. event_at q c.args.n ≡ Barrier k (scopes_of c.args.barrier.now) None) c.if-queue-at.true event) z

pub returns-else-queue-at : goal.returns-else-queue-at
returns-else-queue-at c = λ q event z.
    barrier-elsewhere q c.args.at c.args.n c.args.queue (scopes_of c.args.barrier.now) None c.args.self.now c.if-queue-at.false
    event z
