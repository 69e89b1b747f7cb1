use Rattle.ray_serial.proofs.BottomForms.{HasRoom-form}
use Rattle.ray_serial.proofs.view.SerialView.whole.Goals as goal

pub returns-clause-limits : goal.returns-clause-limits
returns-clause-limits c = HasRoom-form c.self.inside.bytes.now c.self.invariant
