use Rattle.std.proofs.Common.{sym, ◌∙◌}
use Rattle.ray_tree.proofs.ActiveItems.{below_are_active, active_are_below}
use Rattle.ray_tree.proofs.activity.are_active.Goals as goal

pub returns-then-active-items : goal.returns-then-active-items
returns-then-active-items c =
    let all = sym c.requires ∙ c.if-active-items.true in (
      λ below. below_are_active c.args.items.now all c.args.order.now (c.are_below.ensures.0 below),
      λ each. c.are_below.ensures.1 (active_are_below c.args.items.now c.args.order.now each),
    )
