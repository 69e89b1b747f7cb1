use Rattle.ray_prune.proofs.Corners.{IsIn-image}
use Rattle.ray_prune.proofs.pruning.image_is_held.Goals as goal

pub returns : goal.returns
returns c = λ images p is. IsIn-image c.args._m.now c.args._b.now c.args._world.now p images is
