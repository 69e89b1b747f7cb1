use Rattle.std.proofs.Common.{◌∙◌, ap}
use Rattle.ray_stated.specs.Entries.{items_in}
use Rattle.ray_stated.proofs.Arranging.{all_arranged}
use Rattle.ray_stated.proofs.arrange.ordered.Goals as goal

pub returns : goal.returns
returns c =
    c.in_ok-numbers.ensures ∙ ap items_in c.deref.ensures.value
    ∙ all_arranged c.args.items.now c.in_ok-entries.entries.items c.arrange_all.new.entries.items c.requires
    c.in_ok-entries.ensures.of c.in_ok-entries.ensures.each c.arrange_all.ensures
