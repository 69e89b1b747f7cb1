use Rattle.std.proofs.Common.{◌≢◌, rules}
use Rattle.std.specs.Prelude.{pos}
use Rattle.ray_geom.specs.Transform.{det_of}
use Rattle.ray_prune.proofs.Faces.{den_of-world, IsFront-against}
use Rattle.ray_prune.proofs.facing.facing_law.Goals as goal

pub returns-clause-product : goal.returns-clause-product
returns-clause-product c = den_of-world c.args._ray.now c.args._m.now c.args._tri.now

pub returns-clause-against : goal.returns-clause-against
returns-clause-against c =
    let crosses : det_of c.args._m.now ≢ pos 0 = search rules in
    λ w k positive maps. IsFront-against c.args._ray.now c.args._m.now c.args._tri.now crosses w k positive maps
