use Rattle.std.proofs.Common.{◌∙◌, sym}
use Rattle.std.specs.BinaryHeap.{heap_items}
use Rattle.ray_nearest.proofs.Popping.{first_of_heap, not_so}
use Rattle.ray_nearest.proofs.turns.is_first.Goals as goal

pub returns-in-Some : goal.returns-in-Some
returns-in-Some c h =
    first_of_heap c.args.waiting.now c.in-Some.other.now (heap_items c.args.heap.now)
    (sym c.comes_before.ensures ∙ not_so c.comes_before.result h) (c.in-Some.ensures.greatest c.requires)
