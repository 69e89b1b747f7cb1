use Rattle.ray_device.proofs.Standing.{traces-are_free}
use Rattle.ray_device.proofs.laws.traces_are_free.Goals as goal

pub returns : goal.returns
returns c = traces-are_free
