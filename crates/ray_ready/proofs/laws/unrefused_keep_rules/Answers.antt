use Rattle.ray_ready.proofs.Unrefused.{unrefused}
use Rattle.ray_ready.proofs.laws.unrefused_keep_rules.Goals as goal

pub returns : goal.returns
returns c = unrefused
