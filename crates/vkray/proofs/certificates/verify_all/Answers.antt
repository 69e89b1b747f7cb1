use Rattle.std.proofs.Common.{◌≤◌, ◌∙◌, length, subst, sym, arith}
use Rattle.ray_action.specs.Clients.{scripts}
use Rattle.ray_ready.specs.Accepted.{refused_from}
use Rattle.ray_rules.specs.Order.{barriers}
use Rattle.ray_inputs.specs.Inputs.{CertifiedCommands}
use Rattle.vkray.specs.declared.asked.Asked.TheVariants.{Verify}
use Rattle.vkray.specs.declared.request.Request.TheVariants.{Input}
use Rattle.vkray.specs.Answer.{ran}
use Rattle.vkray.specs.Endings.{StopsBy}
use Rattle.vkray.specs.Judged.{InPlaceOfText}
use Rattle.vkray.specs.Tasks.{certified_task}
use Rattle.std.proofs.Common.{Ok}
use Rattle.vkray.proofs.Judging.{verdict_told, verify_stops}
use Rattle.vkray.proofs.certificates.verify_all.Goals as goal

pub verify-requires-clause-rules : goal.verify-requires-clause-rules
verify-requires-clause-rules g c κs inside =
    let rec = c.args.recording.now in
    let kept = c.unrefused_break_no_rule.ensures (barriers rec) (scripts rec) (length rec) (subst (λ r. length rec ≤ refused_from (length rec) r) (sym c.requires) (omega arith)) in
    record { each = λ i command less is. (kept.accepted.each i command less is).rules }

pub returns-then-are_as_many : goal.returns-then-are_as_many
returns-then-are_as_many g c =
    verdict_told (record { commands = c.args.recording.now; certificates = c.args.lines.now }) c.requires c.in-Ok.verdict (sym c.are_as_many.ensures ∙ c.if-are_as_many.true)
    c.in-Ok.ensures.verdict c.in-Ok.ensures.law c.judged.result c.judged.ensures

pub returns-in-Err : goal.returns-in-Err
returns-in-Err g c =
    let v : CertifiedCommands = record { commands = c.args.recording.now; certificates = c.args.lines.now } in
    subst (λ stop. StopsBy (InPlaceOfText (Ok v) (ran (Input Verify) (certified_task v))) stop) (sym c.from.ensures)
    (verify_stops v c.requires c.in-Err.fault c.in-Err.ensures.verdict)
