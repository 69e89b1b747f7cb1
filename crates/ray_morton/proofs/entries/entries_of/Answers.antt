use Rattle.std.proofs.Common.{◌∙◌, ◌^◌, length, nat_lt, ap}
use Rattle.std.specs.List.{filter}
use Rattle.ray_morton.proofs.InOrder.{entries_are}
use Rattle.ray_morton.proofs.entries.entries_of.Goals as goal

pub returns : goal.returns
returns g c =
    c.keep_entries.ensures ∙ ap (filter (λ e. nat_lt e (2 ^ 80))) c.in_ok-entries.ensures
    ∙ entries_are c.args.items.now (length c.args.items.now) c.requires.few
