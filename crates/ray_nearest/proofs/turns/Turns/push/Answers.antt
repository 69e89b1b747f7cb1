use Rattle.std.proofs.Common.{subst, sym}
use Rattle.std.specs.BinaryHeap.{IsHeap, heap_items}
use Rattle.ray_nearest.specs.TurnLaws.{waiting_cmp}
use Rattle.ray_nearest.proofs.Popping.{next_with, next_without, pushed_later, pushed_next}
use Rattle.ray_nearest.proofs.turns.Turns.push.Goals as goal

pub invariant_of-self : goal.invariant_of-self
invariant_of-self c =
    let same = c.in_err-push-in-Some.ensures.unchanged.0 in (
      subst (λ xs. IsHeap waiting_cmp xs) (sym same) c.self.invariant.0,
      next_without c.place.new.next c.place.result c.in-Some.later (heap_items c.self.inside.heap) (heap_items c.push.new.self) c.in-Some.is c.place.ensures.next same,
    )

pub invariant_of-self-in-Some : goal.invariant_of-self-in-Some
invariant_of-self-in-Some c = (
  c.in_ok-push-in-Some.ensures.heap_order c.self.invariant.0,
  next_with c.place.new.next c.place.result c.in-Some.later (heap_items c.self.inside.heap) (heap_items c.push.new.self) c.in-Some.is c.place.ensures.next
      c.in_ok-push-in-Some.ensures.permutation,
)

pub returns-in_ok-push-in-Some : goal.returns-in_ok-push-in-Some
returns-in_ok-push-in-Some c =
    pushed_later c.args.waiting c.in-Some.later c.place.result c.self.inside.next c.place.new.next (heap_items c.self.inside.heap) (heap_items c.push.new.self)
    c.args.self.now c.in-Some.is c.place.ensures.same c.in_ok-push-in-Some.ensures.permutation c.self.view_is

pub returns-in-None : goal.returns-in-None
returns-in-None c =
    pushed_next c.args.waiting c.place.result c.self.inside.next c.place.new.next (heap_items c.self.inside.heap) c.args.self.now c.in-None.is c.place.ensures.same
    c.self.view_is
