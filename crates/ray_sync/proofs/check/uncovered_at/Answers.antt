use Rattle.std.proofs.Common.{◌∙◌, ap, sym, None}
use Rattle.std.specs.Option.{option_map_or}
use Rattle.ray_rules.specs.Hazards.{greatest_with, wrote_uncovered}
use Rattle.ray_rules.specs.Order.{barriers}
use Rattle.ray_sync.proofs.check.uncovered_at.Goals as goal

pub returns-in-Some : goal.returns-in-Some
returns-in-Some c = λ rec n ts lanes carried are placed have.
    c.uncovered.ensures rec n ts lanes carried are placed have
    ∙ ap (λ o. option_map_or (λ to. greatest_with (wrote_uncovered (barriers rec) rec n to) ts n) o None) (sym c.in-Some.is)
