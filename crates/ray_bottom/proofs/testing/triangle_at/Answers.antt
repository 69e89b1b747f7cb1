use Rattle.std.proofs.Common.{sym}
use Rattle.ray_bottom.proofs.Held.{KeepsPoints-triangle}
use Rattle.ray_bottom.proofs.testing.triangle_at.Goals as goal

pub test_triangle-requires : goal.test_triangle-requires
test_triangle-requires c =
    KeepsPoints-triangle c.args.m.now c.args.triangles.now c.args.i c.in_ok-t.t.now c.requires (sym c.in_ok-t.ensures)
