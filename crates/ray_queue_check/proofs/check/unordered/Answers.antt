use Rattle.std.proofs.Common.{◌∙◌, ◌<◌, subst, sym}
use Rattle.ray_queues.proofs.Named.{queue-below}
use Rattle.ray_queue_check.proofs.Finding.{read-last}
use Rattle.ray_queue_check.proofs.Reaching.{all-ordered}
use Rattle.ray_queue_check.proofs.check.unordered.Goals as goal

pub returns : goal.returns
returns c = λ q n ts of kept are placed have.
    let low = subst (λ k. k < 4) (sym of.is) (queue-below q of.have n) in
    c.earlier.ensures
    ∙ read-last c.sharing_is_meeting.ensures q c.args.cells.now n c.args.to ts c.args.touches.now _ of.have are placed have
    (c.last_unordered.ensures q n c.args.to kept.lanes
    (all-ordered q n c.args.queue c.args.to c.chain_stage.result c.ordered-limits.result of.is c.chain_stage.ensures
    (c.ordered-limits.ensures low q n kept.keeping)))
