use Rattle.std.proofs.Common.{◌≡◌, Some}
use Rattle.ray_rules.specs.Order.{barriers}
use Rattle.ray_rules.specs.Verdict.{rule_refusal}
use Rattle.ray_permitted.specs.Along.{run_below}
use Rattle.ray_permitted.specs.Job.{recorded}
use Rattle.vkray.proofs.Judging.{refused_ends}
use Rattle.vkray.proofs.certificates.verify_lines.Goals as goal

pub returns-in-Ok-Some : goal.returns-in-Ok-Some
returns-in-Ok-Some g c =
    let rec = c.args.recording.now in
    let value = c.in-Ok-Some.ensures.value in
    let found = c.in-Ok-Some.field-0-is in
    let some : rule_refusal (barriers rec) rec ≡ Some c.in-Ok-Some.refusal = cc in
    refused_ends (record { commands = rec; certificates = c.args.lines.now }) c.in-Ok-Some.refusal c.ended.result some
    (c.ended.ensures (run_below (recorded rec) c.in-Ok-Some.refusal.command) c.run_until-run.ensures.run)
