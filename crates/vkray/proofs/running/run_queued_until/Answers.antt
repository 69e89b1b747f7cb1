use Rattle.std.proofs.Common.{ℕ, List, length, ap, subst, sym, arith}
use Rattle.ray_queues.specs.Rounds.{RoundsRise}
use Rattle.vkray.proofs.QueueJobs.{held_have_scripts, held_keep_rules, held_separate}
use Rattle.vkray.proofs.running.run_queued_until.Goals as goal

pub run_in_order-requires-clause-rules : goal.run_in_order-requires-clause-rules
run_in_order-requires-clause-rules g c κs within =
    held_keep_rules c.recording-recording.result.now c.args.queued.now c.recording-recording.ensures c.unrefused_break_no_rule.ensures c.args.until c.requires.rules

pub run_in_order-requires-clause-can : goal.run_in_order-requires-clause-can
run_in_order-requires-clause-can g c κs within =
    held_have_scripts c.recording-recording.result.now c.args.queued.now c.recording-recording.ensures c.unrefused_break_no_rule.ensures c.args.until c.requires.rules

pub run_numbered-requires-clause-rules : goal.run_numbered-requires-clause-rules
run_numbered-requires-clause-rules g c κs within =
    held_keep_rules c.recording-recording.result.now c.args.queued.now c.recording-recording.ensures c.unrefused_break_no_rule.ensures c.args.until c.requires.rules

pub run_numbered-requires-clause-can : goal.run_numbered-requires-clause-can
run_numbered-requires-clause-can g c κs within =
    held_have_scripts c.recording-recording.result.now c.args.queued.now c.recording-recording.ensures c.unrefused_break_no_rule.ensures c.args.until c.requires.rules

pub run_numbered-requires-clause-numbered : goal.run_numbered-requires-clause-numbered
run_numbered-requires-clause-numbered g c κs within =
    let many = c.in-Ok.ensures.are.many in
    let same = ap length c.as_slice-numbers.ensures.value in
    omega arith

pub run_numbered-requires-clause-separate : goal.run_numbered-requires-clause-separate
run_numbered-requires-clause-separate g c κs within =
    let q = c.args.queued.now in
    held_separate c.recording-recording.result.now q c.recording-recording.ensures c.unrefused_break_no_rule.ensures c.args.until c.requires.rules
    c.as_slice-numbers.result.now
    (subst (λ (rounds : List ℕ). RoundsRise q c.args.until rounds) (sym c.as_slice-numbers.ensures.value) c.in-Ok.ensures.rise)
