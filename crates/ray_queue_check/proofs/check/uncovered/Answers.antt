use Rattle.std.proofs.Common.{◌∙◌}
use Rattle.ray_queues.proofs.Named.{queue-below}
use Rattle.std.proofs.Common.{◌<◌, subst, sym}
use Rattle.ray_queue_check.proofs.Finding.{written-last}
use Rattle.ray_queue_check.proofs.check.uncovered.Goals as goal

pub returns : goal.returns
returns c = λ q n ts of kept are placed have.
    let low = subst (λ k. k < 4) (sym of.is) (queue-below q of.have n) in
    c.earlier.ensures
    ∙ written-last c.sharing_is_meeting.ensures q c.args.cells.now n c.args.to ts c.args.touches.now _ of.have are placed have
    (c.last_uncovered.ensures low q n of.is kept.lanes kept.everywhere)
