use Rattle.std.proofs.Common.{ap, subst, sym, ◌∙◌}
use Rattle.ray_bottom.specs.Trees.{without_tree}
use Rattle.ray_bottom.specs.Leaves.{AreKept, points_meet}
use Rattle.ray_bottom.proofs.LeafItems.{points-kept, points-met}
use Rattle.ray_bottom.proofs.bottom.Bottom.test_item.Goals as goal

pub test_points-requires : goal.test_points-requires
test_points-requires c =
    let b = c.args.self.now in
    let m = c.args.m.now in
    subst (AreKept m) (sym c.requires.held.points_are)
    (points-kept (without_tree b) c.args.item.now.place m c.geometries-limits.ensures.limits c.requires.kept)

pub returns : goal.returns
returns c =
    let b = c.args.self.now in
    let ray = c.args.ray.now in
    let m = c.args.m.now in
    c.test_points.ensures ∙ (ap (points_meet ray m) c.requires.held.points_are ∙ points-met b.geometries c.args.item.now.place ray m)
