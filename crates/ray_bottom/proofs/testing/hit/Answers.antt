use Rattle.std.proofs.Common.{◌∙◌}
use Rattle.ray_bottom.proofs.Held.{hit_in_world-is}
use Rattle.ray_bottom.proofs.testing.hit.Goals as goal

pub returns : goal.returns
returns c =
    c.world_hit.ensures ∙ hit_in_world-is c.args.ray.now c.args.m.now c.args.tri.now c.world.result c.world.ensures
