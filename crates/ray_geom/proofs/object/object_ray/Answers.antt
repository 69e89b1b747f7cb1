use Rattle.std.proofs.Common.{rules}
use Rattle.ray_geom.specs.ObjectRay.{LeadsBack, object_of}
use Rattle.ray_geom.proofs.ObjectRays.{LeadsBack-object}
use Rattle.ray_geom.proofs.object.object_ray.Goals as goal

pub returns-then-is_identity-clause-back : goal.returns-then-is_identity-clause-back
returns-then-is_identity-clause-back c =
    let back : LeadsBack c.args.ray.now c.args.m.now (object_of c.args.ray.now c.args.m.now) =
    LeadsBack-object c.args.ray.now c.args.m.now in
    search rules

pub returns-else-is_identity-clause-back : goal.returns-else-is_identity-clause-back
returns-else-is_identity-clause-back c =
    let back : LeadsBack c.args.ray.now c.args.m.now (object_of c.args.ray.now c.args.m.now) =
    LeadsBack-object c.args.ray.now c.args.m.now in
    search rules
