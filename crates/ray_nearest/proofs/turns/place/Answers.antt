use Rattle.std.proofs.Common.{◌∙◌, sym}
use Rattle.std.specs.BinaryHeap.{heap_items}
use Rattle.ray_nearest.proofs.Popping.{exchanged, first_after, first_before, first_known}
use Rattle.ray_nearest.proofs.turns.place.Goals as goal

pub returns-then-comes_before-clause-next : goal.returns-then-comes_before-clause-next
returns-then-comes_before-clause-next c =
    first_before c.args.waiting c.in-Some.first c.replace.new.dest c.replace.result (heap_items c.args.heap.now) c.replace.ensures.after c.replace.ensures.value
    (sym c.comes_before.ensures ∙ c.if-comes_before.true)
    (first_known c.args.next.now c.in-Some.first (heap_items c.args.heap.now) c.in-Some.is c.requires.next)

pub returns-else-comes_before-clause-same : goal.returns-else-comes_before-clause-same
returns-else-comes_before-clause-same c = exchanged c.args.waiting c.in-Some.first c.args.next.now (heap_items c.args.heap.now) c.in-Some.is

pub returns-else-comes_before-clause-next : goal.returns-else-comes_before-clause-next
returns-else-comes_before-clause-next c =
    first_after c.args.waiting c.in-Some.first (heap_items c.args.heap.now) (sym c.comes_before.ensures ∙ c.if-comes_before.false)
    (first_known c.args.next.now c.in-Some.first (heap_items c.args.heap.now) c.in-Some.is c.requires.next)
