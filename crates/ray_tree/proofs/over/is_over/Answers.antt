use Rattle.std.proofs.Common.{sym, ◌∙◌}
use Rattle.ray_tree.specs.Trees.{tree_value}
use Rattle.ray_tree.proofs.Locals.{over_has, over_local, tree_over, are_fit}
use Rattle.ray_tree.proofs.over.is_over.Goals as goal

pub returns-then-not-has_items : goal.returns-then-not-has_items
returns-then-not-has_items c =
    let tree = tree_value c.args.nodes.now c.args.boxes.now c.args.order.now in
    (λ h. cc, λ over. let e = c.has_items.ensures.1 (over_has tree c.args.items.now over) in sym c.if-not-has_items.true ∙ e)

pub are_least-requires-clause-active : goal.are_least-requires-clause-active
are_least-requires-clause-active c = (c.has_items.ensures.0 c.if-not-has_items.false).each

pub are_least-requires-clause-fit : goal.are_least-requires-clause-fit
are_least-requires-clause-fit c = are_fit (tree_value c.args.nodes.now c.args.boxes.now c.args.order.now) c.requires

pub returns : goal.returns
returns c =
    let tree = tree_value c.args.nodes.now c.args.boxes.now c.args.order.now in (
      λ h. tree_over tree c.args.items.now c.requires (c.has_items.ensures.0 c.if-not-has_items.false) (c.are_least.ensures.0 h),
      λ over. c.are_least.ensures.1 (over_local tree c.args.items.now over),
    )
