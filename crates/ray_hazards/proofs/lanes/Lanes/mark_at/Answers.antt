use Rattle.std.proofs.Common.{◌∙◌, ap, Some}
use Rattle.ray_hazards.proofs.Laning.{lanes-host}
use Rattle.ray_hazards.proofs.lanes.Lanes.mark_at.Goals as goal

pub returns-in-Host : goal.returns-in-Host
returns-in-Host c = λ counted by reads writes are.
    lanes-host counted c.args.cells.now c.args.n c.args.self.now (by ∙ ap Some c.in-Host.is) are
