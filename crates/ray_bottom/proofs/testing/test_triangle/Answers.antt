use Rattle.std.proofs.Common.{sym}
use Rattle.ray_bottom.proofs.Held.{KeepsTri-active}
use Rattle.ray_bottom.proofs.testing.test_triangle.Goals as goal

pub hit-requires : goal.hit-requires
hit-requires c = KeepsTri-active c.args.m.now c.args.t.now.tri c.in_ok-tri.tri c.requires (sym c.in_ok-tri.ensures.value)
