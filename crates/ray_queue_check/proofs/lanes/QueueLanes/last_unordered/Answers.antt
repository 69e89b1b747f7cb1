use Rattle.std.proofs.Common.{◌∙◌, max}
use Rattle.ray_hazards.specs.Lanes.{AnyUnordered}
use Rattle.ray_queue_check.specs.Lanes.{from_queue}
use Rattle.ray_queue_check.proofs.Using.{last-some}
use Rattle.ray_queue_check.proofs.lanes.QueueLanes.last_unordered.Goals as goal

pub returns : goal.returns
returns c = λ q starts n to used ordered.
    last-some (λ from. AnyUnordered (from_queue q from) starts n to c.args.start c.args.end) n
    c.unordered_in-zero.result c.unordered_in-one.result c.unordered_in-two.result c.unordered_in-three.result _
    (c.greater-3.ensures ∙ λ i. max (c.greater.ensures i) (c.greater-2.ensures i))
    (c.unordered_in-zero.ensures q 0 starts n to used.zero ordered.zero)
    (c.unordered_in-one.ensures q 1 starts n to used.one ordered.one)
    (c.unordered_in-two.ensures q 2 starts n to used.two ordered.two)
    (c.unordered_in-three.ensures q 3 starts n to used.three ordered.three)
