use Rattle.std.proofs.Common.{◌≡◌, ◌∙◌, List, length, sym, ap, subst}
use Rattle.ray_cmd.specs.declared.command.Command.{Command}
use Rattle.ray_rules.specs.Refusals.{static_refusal}
use Rattle.ray_rules.specs.Verdict.{GoOn}
use Rattle.ray_queues.specs.Refusals.{first_queue_refusal}
use Rattle.ray_check.specs.Joining.{looked_at}
use Rattle.ray_check.proofs.Whole.{goes-on, joins-several, looked-is, within-several}
use Rattle.ray_check.proofs.queues.check_queue_rules.Goals as goal

pub check_queues-requires-clause-go_on : goal.check_queues-requires-clause-go_on
check_queues-requires-clause-go_on c =
    let cs : List Command = c.args.rec.now.commands in
    let same = c.recording-commands.ensures in
    let static = c.in_ok-refusal.ensures.value ∙ ap static_refusal same in
    let until = looked-is cs c.in_ok-refusal.refusal c.len.result c.looked_at-until.result
    (length c.in_ok-order.order) c.in_ok-order.ensures.until c.looked_at-until.ensures (c.len.ensures ∙ ap length same) in
    subst (GoOn cs) (sym until) (goes-on cs c.in_ok-refusal.refusal static)

pub returns-clause-value : goal.returns-clause-value
returns-clause-value c =
    let cs : List Command = c.args.rec.now.commands in
    let same = c.recording-commands.ensures in
    let static = c.in_ok-refusal.ensures.value ∙ ap static_refusal same in
    let until = looked-is cs c.in_ok-refusal.refusal c.len.result c.looked_at-until.result
    (length c.in_ok-order.order) c.in_ok-order.ensures.until c.looked_at-until.ensures (c.len.ensures ∙ ap length same) in
    c.first_of_two.ensures
    ∙ joins-several c.args.rec.now c.in_ok-refusal.refusal c.in_ok-later.later static
    (c.in_ok-later.ensures ∙ ap (first_queue_refusal c.args.rec.now) until)

pub returns-clause-within : goal.returns-clause-within
returns-clause-within c =
    let cs : List Command = c.args.rec.now.commands in
    let same = c.recording-commands.ensures in
    let static = c.in_ok-refusal.ensures.value ∙ ap static_refusal same in
    let until = looked-is cs c.in_ok-refusal.refusal c.len.result c.looked_at-until.result
    (length c.in_ok-order.order) c.in_ok-order.ensures.until c.looked_at-until.ensures (c.len.ensures ∙ ap length same) in
    within-several c.args.rec.now c.first_of_two.result
    (c.first_of_two.ensures
    ∙ joins-several c.args.rec.now c.in_ok-refusal.refusal c.in_ok-later.later static
    (c.in_ok-later.ensures ∙ ap (first_queue_refusal c.args.rec.now) until))
