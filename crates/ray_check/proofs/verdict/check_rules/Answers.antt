use Rattle.std.proofs.Common.{◌∙◌, length, sym, ap, subst}
use Rattle.ray_rules.specs.Order.{barriers}
use Rattle.ray_rules.specs.Verdict.{GoOn, first_hazard}
use Rattle.ray_check.proofs.Whole.{goes-on, joins-one, looked-is, within-one}
use Rattle.ray_check.proofs.verdict.check_rules.Goals as goal

pub check_sync-requires-clause-go_on : goal.check_sync-requires-clause-go_on
check_sync-requires-clause-go_on c =
    let until = looked-is c.args.rec.now c.in_ok-refusal.refusal c.len.result c.looked_at-until.result
    (length c.in_ok-order.order) c.in_ok-order.ensures.until c.looked_at-until.ensures c.len.ensures in
    subst (GoOn c.args.rec.now) (sym until)
    (goes-on c.args.rec.now c.in_ok-refusal.refusal c.in_ok-refusal.ensures.value)

pub returns-clause-value : goal.returns-clause-value
returns-clause-value c =
    let until = looked-is c.args.rec.now c.in_ok-refusal.refusal c.len.result c.looked_at-until.result
    (length c.in_ok-order.order) c.in_ok-order.ensures.until c.looked_at-until.ensures c.len.ensures in
    c.first_of_two.ensures
    ∙ joins-one c.args.rec.now c.in_ok-refusal.refusal c.in_ok-hazard.hazard c.in_ok-refusal.ensures.value
    (c.in_ok-hazard.ensures ∙ ap (first_hazard (barriers c.args.rec.now) c.args.rec.now) until)

pub returns-clause-within : goal.returns-clause-within
returns-clause-within c =
    let until = looked-is c.args.rec.now c.in_ok-refusal.refusal c.len.result c.looked_at-until.result
    (length c.in_ok-order.order) c.in_ok-order.ensures.until c.looked_at-until.ensures c.len.ensures in
    within-one c.args.rec.now c.first_of_two.result
    (c.first_of_two.ensures
    ∙ joins-one c.args.rec.now c.in_ok-refusal.refusal c.in_ok-hazard.hazard c.in_ok-refusal.ensures.value
    (c.in_ok-hazard.ensures ∙ ap (first_hazard (barriers c.args.rec.now) c.args.rec.now) until))
