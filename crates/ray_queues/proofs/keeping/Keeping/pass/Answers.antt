use Rattle.std.proofs.Common.{◌∙◌, slice_get, sym}
use Rattle.ray_queues.specs.Keeping.{IsHere}
use Rattle.ray_queues.proofs.Passing.{event-is, last-is, last-low}
use Rattle.ray_queues.proofs.keeping.Keeping.pass.Goals as goal

pub returns : goal.returns
returns c = λ have z.
    let q = c.args.rec.now in
    let n = c.args.n in
    let here : IsHere q n c.command-command.result.now _ = record {
      command = (λ i. slice_get (sym c.recording.ensures i) n) ∙ c.command-command.ensures;
      submission = sym c.submission_of-submission.ensures;
    }
    in
    record {
      targets =
          c.passed-self.ensures q
          (event-is q n c.command-command.result.now _ c.queue_in.result c.numbers_for-numbers.result c.event_of-event.result
          here c.queue_in.ensures (λ begin. c.numbers_for-numbers.ensures begin q n z.marks) c.event_of-event.ensures)
          z.targets;
      marks = c.in_ok-signal.ensures q have here z.targets z.marks;
      waited = last-is q n c.command-command.result.now _ c.args.self.now.waited _ here c.waited_after-self.ensures z.waited;
      low = last-low n c.args.self.now.waited _ _ c.waited_after-self.ensures z.low;
    }
