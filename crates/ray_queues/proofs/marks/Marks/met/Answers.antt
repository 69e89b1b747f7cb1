use Rattle.std.proofs.Common.{◌≡◌, arith, length, map, subst, sym, take}
use Rattle.std.proofs.Math.Seq.{take-length}
use Rattle.ray_queues.specs.Events.{timeline_point}
use Rattle.ray_queues.specs.Sources.{ArePerQueue, number_met}
use Rattle.ray_queues.proofs.Marking.{met-more}
use Rattle.ray_queues.proofs.marks.Marks.met.Goals as goal

pub loop-wait-preserved : goal.loop-wait-preserved
loop-wait-preserved c = λ q n are.
    met-more q n c.loop-wait.wait-index c.args.waits.now _ c.loop-wait.numbers c.met_by.result c.greater-numbers.result
    c.loop-wait-test.true (c.loop-wait.invariant q n are) (c.met_by.ensures q n are) c.greater-numbers.ensures

pub returns : goal.returns
returns c = λ q n are.
    let waits = c.args.waits.now in
    let after = c.loop-wait-test.false in
    let within = c.loop-wait.auto.wait-index-end in
    let same : c.loop-wait.wait-index ≡ length waits = omega arith in
    subst (λ ws. ArePerQueue (number_met q n (map timeline_point ws)) c.loop-wait.numbers)
    (subst (λ j. take j waits ≡ waits) (sym same) (take-length waits)) (c.loop-wait.invariant q n are)
