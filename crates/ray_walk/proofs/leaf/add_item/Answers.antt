use Rattle.std.proofs.Common.{ap, sym, subst, ◌∙◌}
use Rattle.ray_geom.specs.ObjectRay.{object_of}
use Rattle.ray_window.specs.Windows.{window_of}
use Rattle.ray_leaves.specs.declared.leaf_item.LeafItem.{LeafItem}
use Rattle.ray_leaves.specs.Lists.{item_in}
use Rattle.ray_walk.specs.Aims.{MeetsPoints}
use Rattle.ray_walk.specs.Scenes.{placement_value}
use Rattle.ray_walk.proofs.Beside.{adds_nothing, passed}
use Rattle.ray_walk.proofs.WellPlaced.{well_placed}
use Rattle.ray_walk.proofs.leaf.add_item.Goals as goal

pub returns-then-is_passed : goal.returns-then-is_passed
returns-then-is_passed c =
    let w = c.known.ensures in
    let s = c.args.view.now in
    let p = placement_value c.args.looked.now in
    let item = item_in c.args.items c.args.k in
    let window = window_of (object_of s.ray p.instance.matrix) c.args.limit in
    adds_nothing s c.args.i p item.place c.args.limit c.args.turns.now w.ray (well_placed s c.args.i p w.top w.standing w.bottoms c.requires.is_it)
    (λ met.
    passed c.args.window.now c.get-points.result.points window (c.is_passed.ensures c.if-is_passed.true) c.requires.window
    (subst (MeetsPoints window) (sym c.requires.held.points_are ∙ ap (λ (it : LeafItem). it.points) (sym c.get-points.ensures)) met))
