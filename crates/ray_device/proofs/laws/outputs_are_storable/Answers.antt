use Rattle.ray_device.proofs.Storable.{outputs-are_storable}
use Rattle.ray_device.proofs.laws.outputs_are_storable.Goals as goal

pub returns : goal.returns
returns c = outputs-are_storable
