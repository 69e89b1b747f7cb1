use Rattle.std.proofs.Common.{subst}
use Rattle.ray_geometries.specs.declared.shapes.Shapes.{Shapes}
use Rattle.ray_geometries.specs.Contents.{boxes_of_shapes}
use Rattle.ray_bottom.specs.Meeting.{KeepsBoxes}
use Rattle.ray_bottom.proofs.testing.test_in.Goals as goal

pub triangle_at-requires : goal.triangle_at-requires
triangle_at-requires c =
    rw c.as_slice.ensures (subst (λ (s : Shapes). KeepsBoxes c.args.m.now (boxes_of_shapes s)) c.in-Triangles.is c.requires)
