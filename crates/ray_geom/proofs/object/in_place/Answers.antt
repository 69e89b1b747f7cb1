use Rattle.std.proofs.Common.{rules, sym}
use Rattle.ray_geom.specs.Scene.{ray_value}
use Rattle.ray_geom.proofs.Identity.{ray_stays}
use Rattle.ray_geom.proofs.object.in_place.Goals as goal

pub returns : goal.returns
returns c =
    let ray = c.ray.inside in
    let same = sym (ray_stays (ray_value ray.origin ray.dir ray.tmin ray.tmax)) in
    search (rules, same)
