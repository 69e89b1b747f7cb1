use Rattle.std.proofs.Common.{length, refl, sym, subst}
use Rattle.ray_tree.specs.Trees.{TreeOver, tree_value}
use Rattle.ray_climb.specs.Refits.{IsRefit, refit_value}
use Rattle.ray_climb.specs.Ready.{AreTrue}
use Rattle.ray_climb.proofs.Boxed.{refit_by, parts_over}
use Rattle.ray_climb.proofs.refit.Refit.with_boxes.Goals as goal

pub with_boxes-requires : goal.with_boxes-requires
with_boxes-requires c =
    let r = refit_value c.self.inside.tree c.self.inside.items.items in
    subst (TreeOver (tree_value r.tree.nodes c.args.boxes.items r.tree.order)) (sym c.deref.ensures.value)
    (parts_over r c.self.invariant.ready c.args.boxes.items r.tree.nodes r.tree.order refl refl
    (subst (λ r. AreTrue r c.args.boxes.items (length r.tree.nodes)) (sym c.self.view_is) c.requires))

pub returns : goal.returns
returns c =
    let r = refit_value c.self.inside.tree c.self.inside.items.items in
    let are = subst (λ r. AreTrue r c.args.boxes.items (length r.tree.nodes)) (sym c.self.view_is) c.requires in
    subst (λ x. IsRefit x.tree x.items c.with_boxes.result) c.self.view_is
    (refit_by r c.args.boxes.items r.tree.nodes r.tree.order c.with_boxes.result refl refl c.with_boxes.ensures
    (parts_over r c.self.invariant.ready c.args.boxes.items r.tree.nodes r.tree.order refl refl are))
