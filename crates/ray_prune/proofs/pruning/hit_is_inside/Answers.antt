use Rattle.ray_prune.proofs.Inside.{IsInside-hit}
use Rattle.ray_prune.proofs.pruning.hit_is_inside.Goals as goal

pub returns : goal.returns
returns c = λ holds hit n d distance. IsInside-hit c.args._ray.now c.args._m.now c.args._tri.now c.args._b.now holds hit n d distance
