use Rattle.std.proofs.Common.{rules, None, ◌↔◌}
use Rattle.std.specs.Prelude.{IsSome}
use Rattle.ray_geom.specs.declared.raw_hit.RawHit.{RawHit}
use Rattle.ray_geom.specs.TriangleHit.{IsHit}
use Rattle.ray_geom.proofs.HitValues.{hit_of-raw}
use Rattle.ray_geom.proofs.hit.meet_tri.Goals as goal

pub returns-clause-hit : goal.returns-clause-hit
returns-clause-hit c = hit_of-raw c.args.ray.now c.args.tri.now c.meet_between.result c.meet_between.ensures.some c.meet_between.ensures.value

pub returns-then-ne-clause-hit : goal.returns-then-ne-clause-hit
returns-then-ne-clause-hit c =
    let some : IsSome {T = RawHit} None ↔ IsHit c.args.ray.now c.args.tri.now = search rules in
    hit_of-raw c.args.ray.now c.args.tri.now None some _

pub returns-then-ne-2-clause-hit : goal.returns-then-ne-2-clause-hit
returns-then-ne-2-clause-hit c =
    let some : IsSome {T = RawHit} None ↔ IsHit c.args.ray.now c.args.tri.now = search rules in
    hit_of-raw c.args.ray.now c.args.tri.now None some _
