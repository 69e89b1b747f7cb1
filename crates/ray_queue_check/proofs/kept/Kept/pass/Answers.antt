use Rattle.std.proofs.Common.{◌∙◌, slice_get, sym}
use Rattle.std.proofs.lemmas.Result.{on_ok_weaker}
use Rattle.ray_queues.specs.Keeping.{IsHere}
use Rattle.ray_queue_check.proofs.kept.Kept.pass.Goals as goal

pub returns : goal.returns
returns c =
    on_ok_weaker c.pass-2.result (λ last status is kept.
    let q = c.args.rec.now in
    let n = c.args.n in
    let here : IsHere q n c.command-command.result.now _ = record {
      command = (λ i. slice_get (sym c.recording.ensures i) n) ∙ c.command-command.ensures;
      submission = sym c.submission_of-submission.ensures;
    }
    in
    record {
      lanes = c.in_ok-mark.ensures q c.queue_of.ensures is kept.lanes;
      everywhere = c.in_ok-pass.ensures q (c.in_ok-event.ensures q n here status kept.keeping) kept.everywhere;
      keeping = last c.queues_law.ensures kept.keeping;
    })
    c.pass-2.ensures
