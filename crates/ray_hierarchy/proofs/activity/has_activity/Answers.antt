use Rattle.std.proofs.Common.{sym, subst, List, ℕ}
use Rattle.ray_tree.specs.Local.{HasItems}
use Rattle.ray_hierarchy.proofs.Places.{same_activity, same_items}
use Rattle.ray_hierarchy.proofs.activity.has_activity.Goals as goal

pub returns : goal.returns
returns c = (
  λ has. same_activity c.args.tree.now c.args.items.now c.shape.ensures
      (subst (λ (xs : List ℕ). HasItems xs c.args.items.now) c.order.ensures (c.has_items.ensures.0 has)),
  λ same. c.has_items.ensures.1
      (subst (λ (xs : List ℕ). HasItems xs c.args.items.now) (sym c.order.ensures) (same_items c.args.tree.now c.args.items.now same)),
)
