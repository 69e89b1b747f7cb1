use Rattle.std.proofs.Common.{◌≡◌, ◌<◌, ℕ, List, length, sym, subst}
use Rattle.ray_geom.specs.LeastBoxes.{HoldsBoxes, IsLeast}
use Rattle.ray_tree.specs.Trees.{boxes_in}
use Rattle.ray_climb.specs.Refits.{refit_value, box_over}
use Rattle.ray_tree.proofs.LeastOver.{leaf_is}
use Rattle.ray_climb.proofs.refit.Refit.leaf_box.Goals as goal

pub returns-in-Leaf : goal.returns-in-Leaf
returns-in-Leaf c =
    let ready = c.self.invariant.ready in
    let r = refit_value c.self.inside.tree c.self.inside.items.items in
    let small = subst (λ x. c.args.n < length x.tree.nodes) (sym c.self.view_is) c.requires.small in
    let placed = subst (λ (order : List ℕ). IsLeast (HoldsBoxes (boxes_in c.deref.result.now order c.in-Leaf.first c.in-Leaf.count)) c.least_in.result) c.order.ensures c.least_in.ensures in
    let least = subst (λ l. IsLeast (HoldsBoxes (boxes_in l c.self.inside.tree.order c.in-Leaf.first c.in-Leaf.count)) c.least_in.result) c.deref.ensures.value placed in
    subst (λ x. c.least_in.result ≡ box_over x c.args.n) c.self.view_is
    (leaf_is r.tree r.items ready.shape ready.activity c.args.n c.in-Leaf.first c.in-Leaf.count c.least_in.result small (sym c.in-Leaf.ensures.value) least)
