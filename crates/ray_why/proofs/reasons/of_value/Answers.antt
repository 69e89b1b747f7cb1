use Rattle.ray_why.proofs.Readings.{rules_tell}
use Rattle.ray_why.proofs.reasons.of_value.Goals as goal

pub returns-in-Ok : goal.returns-in-Ok
returns-in-Ok g c = rules_tell c.of_recording.result _ _ c.in-Ok.ensures.answer c.of_recording.ensures
