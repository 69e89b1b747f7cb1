use Rattle.std.proofs.Common.{◌∙◌, Ok, ap, sym}
use Rattle.ray_submits.proofs.Passing.{checked-more, first-of}
use Rattle.ray_submits.specs.Semaphores.{signals_before}
use Rattle.ray_submits.proofs.check.check_semaphores.Goals as goal

pub returns-in-Some : goal.returns-in-Some
returns-in-Some c =
    let q = c.args.rec.now in
    let n = c.loop-n.n in
    sym (first-of q n c.args.until c.in-Some.refusal _ c.loop-n.semaphores c.submit_at-submission.ensures
    (sym c.in-Some.is ∙ c.in_ok-refusal.ensures.refusal (signals_before q n) c.loop-n.invariant.seen)
    c.loop-n.invariant c.loop-n-test.true)

pub loop-n-preserved : goal.loop-n-preserved
loop-n-preserved c =
    let q = c.args.rec.now in
    let n = c.loop-n.n in
    checked-more q n _ c.loop-n.semaphores c.refusal_of.new.semaphores c.submit_at-submission.ensures
    (sym c.in_default.is ∙ c.in_ok-refusal.ensures.refusal (signals_before q n) c.loop-n.invariant.seen)
    (c.in_ok-refusal.ensures.next (ap Ok c.in_default.is) (signals_before q n) c.loop-n.invariant.seen)
    c.loop-n.invariant
