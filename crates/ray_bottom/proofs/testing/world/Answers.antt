use Rattle.ray_bottom.proofs.Held.{world_tri-stays}
use Rattle.ray_bottom.proofs.testing.world.Goals as goal

pub returns-then-is_identity : goal.returns-then-is_identity
returns-then-is_identity c =
    world_tri-stays c.args.m.now c.args.tri.now (c.is_identity.ensures.stays c.if-is_identity.true)
