use Rattle.std.proofs.Common.{rules, Some, refl}
use Rattle.ray_geom.specs.TriangleHit.{IsHit, Tells}
use Rattle.ray_geom.proofs.HitValues.{hit_of-meets}
use Rattle.ray_geom.proofs.hit.hit_tri.Goals as goal

pub returns-in-Some-clause-hit : goal.returns-in-Some-clause-hit
returns-in-Some-clause-hit c =
    let is : IsHit c.args.ray.now c.args.tri.now = c.meet_tri.ensures.some.0 (search rules) in
    let tells : Tells c.args.ray.now c.args.tri.now c.reduced.result = search rules in
    hit_of-meets c.args.ray.now c.args.tri.now (Some c.reduced.result) (λ _. is, λ _. refl) tells
