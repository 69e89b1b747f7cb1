use Rattle.ray_action.specs.Clients.{scripts}
use Rattle.ray_rules.specs.Order.{barriers}
use Rattle.ray_ready.proofs.Scripts.{have_scripts}
use Rattle.vkray.proofs.running.run_until.Goals as goal

pub run_in_order-requires-clause-rules : goal.run_in_order-requires-clause-rules
run_in_order-requires-clause-rules g c κs within =
    let kept = c.unrefused_break_no_rule.ensures (barriers c.args.recording.now) (scripts c.args.recording.now) c.args.until c.requires.rules in
    record { each = λ i command less is. (kept.accepted.each i command less is).rules }

pub run_in_order-requires-clause-can : goal.run_in_order-requires-clause-can
run_in_order-requires-clause-can g c κs within i less =
    let kept = c.unrefused_break_no_rule.ensures (barriers c.args.recording.now) (scripts c.args.recording.now) c.args.until c.requires.rules in
    have_scripts c.args.recording.now c.args.until i kept.accepted less
