use Rattle.std.proofs.Common.{◌≢◌, rules}
use Rattle.std.specs.Prelude.{pos}
use Rattle.ray_geom.specs.Transform.{det_of}
use Rattle.ray_prune.proofs.World.{IsInside-world}
use Rattle.ray_prune.proofs.pruning.inside_in_world.Goals as goal

pub returns : goal.returns
returns c =
    let crosses : det_of c.args._m.now ≢ pos 0 = search rules in
    λ images n d i. IsInside-world c.args._m.now c.args._ray.now c.args._b.now c.args._world.now crosses images n d i
