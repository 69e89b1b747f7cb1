use Rattle.std.proofs.Common.{◌∙◌, max}
use Rattle.ray_hazards.specs.Lanes.{AnyUncovered}
use Rattle.ray_queue_check.specs.Lanes.{from_queue}
use Rattle.ray_queue_check.proofs.Using.{last-some}
use Rattle.ray_queue_check.proofs.lanes.QueueLanes.last_uncovered.Goals as goal

pub returns : goal.returns
returns c = λ q starts n accessed used covered.
    last-some
    (λ from. AnyUncovered (from_queue q from) starts accessed.thing n accessed.stage accessed.access c.args.start c.args.end) n
    c.uncovered_in-zero.result c.uncovered_in-one.result c.uncovered_in-two.result c.uncovered_in-three.result _
    (c.greater-3.ensures ∙ λ i. max (c.greater.ensures i) (c.greater-2.ensures i))
    (c.uncovered_in-zero.ensures q 0 starts n accessed used.zero covered.zero)
    (c.uncovered_in-one.ensures q 1 starts n accessed used.one covered.one)
    (c.uncovered_in-two.ensures q 2 starts n accessed used.two covered.two)
    (c.uncovered_in-three.ensures q 3 starts n accessed used.three covered.three)
