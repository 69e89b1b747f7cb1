use Rattle.std.proofs.Common.{◌∙◌}
use Rattle.ray_hazards.proofs.Laning.{lanes-same}
use Rattle.ray_hazards.proofs.lanes.Lanes.mark.Goals as goal

pub returns-in-None : goal.returns-in-None
returns-in-None c = λ counted by reads writes are.
    lanes-same counted c.args.cells.now c.args.n c.args.self.now (by ∙ c.in-None.is) are
