use Rattle.std.proofs.Common.{◌∙◌, ap}
use Rattle.ray_tree.specs.Entries.{items_in}
use Rattle.ray_tree.proofs.Entered.{kept_once}
use Rattle.ray_tree.proofs.order.ordered.Goals as goal

pub returns : goal.returns
returns c p =
    kept_once c.args.items.now c.in_ok-entries.entries.items c.arrange_all.new.entries.items c.in_ok-numbers.numbers.items c.in_ok-entries.ensures c.arrange_all.ensures
    (c.in_ok-numbers.ensures ∙ ap items_in c.deref.ensures.value) p
