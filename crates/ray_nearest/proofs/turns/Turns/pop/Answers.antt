use Rattle.std.proofs.Common.{◌∙◌, sym}
use Rattle.std.specs.BinaryHeap.{heap_items}
use Rattle.ray_nearest.proofs.Popping.{popped, taken}
use Rattle.ray_nearest.proofs.turns.Turns.pop.Goals as goal

pub returns-in-Some : goal.returns-in-Some
returns-in-Some c =
    taken c.in-Some.next c.self.inside.next c.take.new.self (heap_items c.self.inside.heap) c.args.self.now
    (sym c.take.ensures.value ∙ c.in-Some.is) c.take.ensures.after c.self.invariant.1 c.self.view_is

pub returns-in_ok-first-in-None : goal.returns-in_ok-first-in-None
returns-in_ok-first-in-None c =
    popped c.in_ok-first-in-None.first c.self.inside.next c.take.new.self (heap_items c.self.inside.heap) (heap_items c.first_of.new.heap) c.args.self.now
    (sym c.take.ensures.value ∙ c.in-None.is) c.take.ensures.after c.in_ok-first-in-None.ensures.permutation c.in_ok-first-in-None.ensures.first c.self.view_is
