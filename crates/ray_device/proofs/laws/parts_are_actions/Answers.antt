use Rattle.ray_device.proofs.Storable.{parts-are_actions}
use Rattle.ray_device.proofs.laws.parts_are_actions.Goals as goal

pub returns : goal.returns
returns c = parts-are_actions
