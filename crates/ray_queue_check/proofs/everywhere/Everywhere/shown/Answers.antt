use Rattle.std.proofs.Common.{◌∙◌, subst, sym}
use Rattle.ray_queue_check.specs.Arriving.{number_shown, number_to}
use Rattle.ray_queue_check.specs.Numbers.{AreSources, greater_sources}
use Rattle.ray_queue_check.proofs.Numbers.{sources-greater}
use Rattle.ray_queue_check.proofs.everywhere.Everywhere.shown.Goals as goal

pub returns : goal.returns
returns c = λ q n z.
    let number = number_to q c.args.thing n in
    let s = c.args.stage in
    let x = c.args.access in
    let a = c.limits-zero.result in
    let b = c.limits-one.result in
    let d = c.limits-two.result in
    let e = c.limits-three.result in
    subst (AreSources (number_shown q c.args.thing n s x))
    (sym (c.greater-3.ensures ∙ λ i. greater_sources (c.greater.ensures i) (c.greater-2.ensures i)))
    (sources-greater _ _ (greater_sources a b) (greater_sources d e)
    (sources-greater (number 0 s x) (number 1 s x) a b (c.limits-zero.ensures q n z.zero) (c.limits-one.ensures q n z.one))
    (sources-greater (number 2 s x) (number 3 s x) d e (c.limits-two.ensures q n z.two) (c.limits-three.ensures q n z.three)))
