use Rattle.std.proofs.Common.{◌∙◌, length, refl, sym, ap}
use Rattle.ray_tree.specs.Trees.{times}
use Rattle.ray_tree.specs.Plans.{median_nodes}
use Rattle.ray_stated.specs.Order.{stated_order}
use Rattle.ray_stated.specs.Stated.{stated_tree}
use Rattle.ray_stated.proofs.Ordered.{stated_once}
use Rattle.ray_stated.proofs.Planned.{over_halved, halved-nodes, halved-order, same_tree}
use Rattle.ray_stated.proofs.build.build_stated.Goals as goal

pub build_over-requires-clause-once : goal.build_over-requires-clause-once
build_over-requires-clause-once c p = ap (times p) c.in_ok-order.ensures ∙ stated_once c.args.items.now p

pub returns-clause-stated : goal.returns-clause-stated
returns-clause-stated c =
    let items = c.args.items.now in
    let order = stated_order items in
    same_tree c.in_ok-tree.tree (stated_tree items) items c.in_ok-tree.ensures.over (over_halved items order (length order) refl c.requires (stated_once items))
    (c.in_ok-tree.ensures.nodes ∙ ap (λ l. median_nodes (length l)) c.in_ok-order.ensures ∙ sym (halved-nodes items order (length order)))
    (c.in_ok-tree.ensures.order ∙ c.in_ok-order.ensures ∙ sym (halved-order items order (length order)))
