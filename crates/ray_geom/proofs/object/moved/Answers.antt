use Rattle.std.proofs.Common.{rules}
use Rattle.std.proofs.lemmas.Int.{to_z-of_z}
use Rattle.ray_geom.specs.ObjectRay.{IsObjectRay, object_of}
use Rattle.ray_geom.proofs.ObjectRays.{IsObjectRay-object}
use Rattle.ray_geom.proofs.object.moved.Goals as goal

pub invariant_of-result : goal.invariant_of-result
invariant_of-result c =
    let bound : IsObjectRay (object_of c.args.ray.now c.args.m.now) =
    IsObjectRay-object c.args.ray.now c.args.m.now (search rules) (search rules) in
    search (rules, to_z-of_z)
