use Rattle.std.proofs.Common.{◌≡◌, ◌≤◌, length, Option, Some, None, subst, sym, arith}
use Rattle.ray_cmd.specs.declared.refusal.Refusal.{Refusal}
use Rattle.ray_action.specs.Clients.{scripts}
use Rattle.ray_memory.specs.State.{memory_of}
use Rattle.ray_permitted.specs.Job.{recorded}
use Rattle.ray_permitted.specs.Rules.{BreakNoRule}
use Rattle.ray_ready.specs.Accepted.{refused_from}
use Rattle.ray_rules.specs.Order.{barriers}
use Rattle.ray_rules.specs.Verdict.{rule_refusal}
use Rattle.ray_permitted.specs.Along.{run_below}
use Rattle.vkray.specs.Answer.{ran, run_with}
use Rattle.vkray.specs.Endings.{Ends, StopsSo}
use Rattle.vkray.specs.Tasks.{recorded_task}
use Rattle.vkray.specs.declared.request.Request.TheVariants.{RunSelf}
use Rattle.vkray.proofs.LastRead.{count_ends, stops}
use Rattle.vkray.proofs.self_run.count.Goals as goal

pub returns-in-Ok : goal.returns-in-Ok
returns-in-Ok g c =
    let rec = c.args.recording.now in
    let value = c.in-Ok-None.ensures.value in
    let found = c.in-Ok-None.field-0-is in
    let none : rule_refusal (barriers rec) rec ≡ None = cc in
    let kept : BreakNoRule (recorded rec) (length rec) =
    c.unrefused_break_no_rule.ensures (barriers rec) (scripts rec) (length rec) (subst (λ r. length rec ≤ refused_from (length rec) r) (sym none) (omega arith)) in
    count_ends c.args.asked rec kept none c.quiet_length-until.result c.quiet_length-until.ensures _ (memory_of c.run_until.new.state) c.counted_line.result
    c.in-Ok.ensures.run c.in-Ok.ensures.left c.counted_line.ensures

pub returns-in-Ok-None : goal.returns-in-Ok-None
returns-in-Ok-None g c =
    let rec = c.args.recording.now in
    let value = c.in-Ok-None.ensures.value in
    let found = c.in-Ok-None.field-0-is in
    let none : rule_refusal (barriers rec) rec ≡ None = cc in
    let kept : BreakNoRule (recorded rec) (length rec) =
    c.unrefused_break_no_rule.ensures (barriers rec) (scripts rec) (length rec) (subst (λ r. length rec ≤ refused_from (length rec) r) (sym none) (omega arith)) in
    subst (λ stop. StopsSo (ran (RunSelf c.args.asked) (recorded_task rec)) stop) (sym c.from.ensures)
    (stops c.args.asked rec kept none c.quiet_length-until.result c.quiet_length-until.ensures c.in-Err-run_until.fault c.in-Err-run_until.ensures.run)

pub returns-in-Ok-Some : goal.returns-in-Ok-Some
returns-in-Ok-Some g c =
    let rec = c.args.recording.now in
    let value = c.in-Ok-Some.ensures.value in
    let found = c.in-Ok-Some.field-0-is in
    let some : rule_refusal (barriers rec) rec ≡ Some c.in-Ok-Some.refusal = cc in
    subst (λ (o : Option Refusal). Ends (run_with (RunSelf c.args.asked) (recorded rec) o) c.ended.result) (sym some)
    (c.ended.ensures (run_below (recorded rec) c.in-Ok-Some.refusal.command) c.run_until-run.ensures.run)
