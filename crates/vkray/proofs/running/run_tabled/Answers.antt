use Rattle.vkray.proofs.Ended.{keep_rules, tabled_ends}
use Rattle.vkray.proofs.running.run_tabled.Goals as goal

pub run_in_order-run-requires-clause-rules : goal.run_in_order-run-requires-clause-rules
run_in_order-run-requires-clause-rules g c κs within =
    keep_rules c.recording-recording.result.now c.in-Ok.refusal c.end_of-until.result c.unrefused_break_no_rule.ensures c.in-Ok.ensures.value
    c.end_of-until.ensures

pub returns-in-Ok : goal.returns-in-Ok
returns-in-Ok g c =
    tabled_ends c.args.tabled.now c.recording-recording.result.now c.tables.result.now c.in-Ok.refusal c.end_of-until.result
    c.recording-recording.ensures c.tables.ensures c.in-Ok.ensures.value c.end_of-until.ensures
    c.run_in_order-run.result c.run_in_order-run.ensures.run c.ended.result c.ended.ensures
