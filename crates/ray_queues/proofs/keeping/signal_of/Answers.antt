use Rattle.ray_queues.proofs.Passing.{marks-present, queue-here, weaker}
use Rattle.ray_queues.proofs.keeping.signal_of.Goals as goal

pub returns : goal.returns
returns c = weaker c.signal.result (λ added q have here z are.
    let s = c.args.submission.now in
    let n = c.args.n in
    marks-present q n s c.args.marks.now c.signal.new.self c.carried-numbers.result c.as_slice.result.now here
    (c.carried-numbers.ensures q (c.of.ensures (queue-here q n s have here) q n z)) c.as_slice.ensures.items added are)
    c.signal.ensures
