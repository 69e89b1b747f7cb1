use Rattle.ray_action.proofs.Touching.{touch_within}
use Rattle.ray_action.proofs.laws.actions_touch_within.Goals as goal

pub returns : goal.returns
returns c = touch_within
