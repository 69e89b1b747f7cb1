use Rattle.std.proofs.Common.{◌∙◌}
use Rattle.ray_sync.specs.OneQueue.{in_order}
use Rattle.ray_hazards.proofs.Checking.{unordered-last}
use Rattle.ray_sync.proofs.OneQueue.{fronts-order}
use Rattle.ray_sync.proofs.check.unordered.Goals as goal

pub returns : goal.returns
returns c = λ rec ts lanes fronts are placed have.
    c.earlier.ensures
    ∙ unordered-last c.sharing_is_meeting.ensures (in_order rec) c.args.cells.now c.args.n c.args.to ts c.args.touches.now _ are placed have
    (c.last_unordered.ensures rec c.args.n c.args.to lanes
    (fronts-order rec c.args.n c.args.to c.args.fronts c.stage_limits.result fronts c.stage_limits.ensures))
