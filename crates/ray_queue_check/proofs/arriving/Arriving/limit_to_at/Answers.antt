use Rattle.std.proofs.Common.{Some}
use Rattle.ray_chains.specs.Tables.{scopes_of}
use Rattle.ray_queue_check.proofs.Moving.{barrier-elsewhere}
use Rattle.ray_queue_check.proofs.arriving.Arriving.limit_to_at.Goals as goal

pub returns : goal.returns
returns c = λ q is z.
    barrier-elsewhere q c.args.at c.args.n c.args.queue (scopes_of c.args.barrier.now) (Some is.ids) c.args.self.now
    c.if-queue-at.false is.is z
