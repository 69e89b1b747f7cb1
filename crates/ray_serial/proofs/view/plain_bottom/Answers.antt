use Rattle.ray_serial.proofs.Form2Restored.{plain_to_bottom}
use Rattle.ray_serial.proofs.view.plain_bottom.Goals as goal

pub returns-in-Ok-clause-value : goal.returns-in-Ok-clause-value
returns-in-Ok-clause-value g c = plain_to_bottom c.args.bytes.now c.in-Ok.bottom c.requires.plain c.in-Ok.ensures.value
