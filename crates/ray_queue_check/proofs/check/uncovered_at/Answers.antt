use Rattle.std.proofs.Common.{◌∙◌, ap, sym, None}
use Rattle.std.specs.Option.{option_map_or}
use Rattle.ray_queues.specs.QueueOrder.{queue_order}
use Rattle.ray_rules.specs.Hazards.{greatest_with, wrote_uncovered}
use Rattle.ray_queue_check.proofs.check.uncovered_at.Goals as goal

pub returns-in-Some : goal.returns-in-Some
returns-in-Some c = λ q n ts of kept are placed have.
    c.uncovered.ensures q n ts of kept are placed have
    ∙ ap (λ o. option_map_or (λ to. greatest_with (wrote_uncovered (queue_order q) q.commands n to) ts n) o None) (sym c.in-Some.is)
