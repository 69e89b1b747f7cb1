use Rattle.std.proofs.Common.{sym, subst}
use Rattle.ray_contents.specs.Bounds.{KeepsBounds}
use Rattle.ray_geometries.specs.Contents.{bounds_of}
use Rattle.ray_bottom.specs.Trees.{BottomWithTree}
use Rattle.ray_bottom.proofs.Held.{KeepsBoxes-geometry}
use Rattle.ray_bottom.proofs.bottom.Bottom.test_prim.Goals as goal

pub test_in-requires : goal.test_in-requires
test_in-requires g c =
    KeepsBoxes-geometry c.args.m.now c.self.inside.contents.geometries c.args.place.geometry c.in_ok-geometry.geometry.now
    (subst (λ (v : BottomWithTree). KeepsBounds c.args.m.now (bounds_of v.geometries)) (sym c.self.view_is) c.requires)
    (sym c.in_ok-geometry.ensures)
