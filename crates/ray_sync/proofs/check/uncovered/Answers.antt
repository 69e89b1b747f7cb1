use Rattle.std.proofs.Common.{◌∙◌}
use Rattle.ray_sync.specs.OneQueue.{in_order}
use Rattle.ray_hazards.proofs.Checking.{uncovered-last}
use Rattle.ray_sync.proofs.check.uncovered.Goals as goal

pub returns : goal.returns
returns c = λ rec n ts lanes carried are placed have.
    c.earlier.ensures
    ∙ uncovered-last c.sharing_is_meeting.ensures (in_order rec) c.args.cells.now n c.args.to ts c.args.touches.now _ are placed have
    (c.last_uncovered.ensures rec n lanes carried)
