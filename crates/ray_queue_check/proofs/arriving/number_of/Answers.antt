use Rattle.std.proofs.Common.{◌≡◌, arith, subst, sym}
use Rattle.ray_hazards.specs.Carrying.{IsMet}
use Rattle.ray_queue_check.specs.Arriving.{several_queues}
use Rattle.ray_queue_check.proofs.arriving.number_of.Goals as goal

pub returns-in-0 : goal.returns-in-0
returns-in-0 c = λ low q n waits met.
    subst (λ k. IsMet (several_queues q) k n waits c.args.numbers.now.zero.transfer) (sym c.in-0.is) met.zero

pub returns-in-1 : goal.returns-in-1
returns-in-1 c = λ low q n waits met.
    subst (λ k. IsMet (several_queues q) k n waits c.args.numbers.now.one.transfer) (sym c.in-1.is) met.one

pub returns-in-2 : goal.returns-in-2
returns-in-2 c = λ low q n waits met.
    subst (λ k. IsMet (several_queues q) k n waits c.args.numbers.now.two.transfer) (sym c.in-2.is) met.two

pub returns-in_default : goal.returns-in_default
returns-in_default c = λ low q n waits met.
    let not = c.in_default in
    let same : 3 ≡ c.args.queue = omega arith in
    subst (λ k. IsMet (several_queues q) k n waits c.args.numbers.now.three.transfer) same met.three
