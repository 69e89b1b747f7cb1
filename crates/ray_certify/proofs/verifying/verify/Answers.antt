use Rattle.std.proofs.Common.{◌≡◌, ◌<◌, ◌≤◌, ◌+◌, length, arith}
use Rattle.ray_action.specs.Clients.{HasScript, scripts}
use Rattle.ray_action.specs.Pieces.{command_at}
use Rattle.ray_memory.specs.State.{memory_of}
use Rattle.ray_permitted.specs.Job.{recorded}
use Rattle.ray_ready.specs.Accepted.{KeepStaticRules}
use Rattle.ray_exec.proofs.OneCommand.{none_run, stays}
use Rattle.ray_certify.proofs.Commands.{checked_more, checked_none}
use Rattle.ray_certify.proofs.verifying.verify.Goals as goal

pub loop-command-init : goal.loop-command-init
loop-command-init g c =
    (none_run (recorded c.args.rec.now) (memory_of c.new-state.result) c.new-text.result.items c.new-state.ensures c.new-text.ensures.items, checked_none (recorded c.args.rec.now) c.args.lines.now)

pub verify_command-requires-clause-can : goal.verify_command-requires-clause-can
verify_command-requires-clause-can g c =
    let rec = c.args.rec.now in
    let i = c.loop-command.command in
    let within : i < length rec = (let t = c.loop-command-test.true in let e = c.len-command-end.ensures in omega arith) in
    c.traces_can_begin.ensures (scripts rec) i (memory_of c.loop-command.state) c.loop-command.text.items within
    (record { each = λ k command less is. c.requires.rules.each k command (omega (arith, less, within)) is }) c.loop-command.invariant.0

pub verify_command-requires-clause-script : goal.verify_command-requires-clause-script
verify_command-requires-clause-script g c =
    let rec = c.args.rec.now in
    let i = c.loop-command.command in
    let within : i < length rec = (let t = c.loop-command-test.true in let e = c.len-command-end.ensures in omega arith) in
    c.accepted_have_scripts.ensures rec (length rec) i (c.kept_are_accepted.ensures (length rec) c.requires.rules) within

pub run_command-requires-clause-rules : goal.run_command-requires-clause-rules
run_command-requires-clause-rules g c κs inside =
    let rec = c.args.rec.now in
    let within : c.loop-command.command < length rec = (let t = c.loop-command-test.true in let e = c.len-command-end.ensures in omega arith) in
    record { each = λ k command less is. c.requires.rules.each k command (omega (arith, less, within)) is }

pub run_command-requires-clause-can : goal.run_command-requires-clause-can
run_command-requires-clause-can g c κs inside =
    let rec = c.args.rec.now in
    let i = c.loop-command.command in
    let within : i < length rec = (let t = c.loop-command-test.true in let e = c.len-command-end.ensures in omega arith) in
    c.accepted_have_scripts.ensures rec (length rec) i (c.kept_are_accepted.ensures (length rec) c.requires.rules) within

pub returns-in-Err-run_command-clause-verdict : goal.returns-in-Err-run_command-clause-verdict
returns-in-Err-run_command-clause-verdict g c =
    let rec = c.args.rec.now in
    let i = c.loop-command.command in
    let within : i + 1 ≤ length rec = (let t = c.loop-command-test.true in let e = c.len-command-end.ensures in omega arith) in
    stays (recorded rec) (i + 1) (length rec) c.in-Err-run_command.fault within (omega arith) c.in-Err-run_command.ensures.err

pub loop-command-preserved : goal.loop-command-preserved
loop-command-preserved g c =
    let rec = c.args.rec.now in
    let i = c.loop-command.command in
    let so_far = c.loop-command.invariant in
    (c.in_default.ensures.ok, checked_more rec i (memory_of c.loop-command.state) c.loop-command.text.items c.args.lines.now c.loop-command.checked c.in-Ok.now so_far.0 so_far.1 c.in-Ok.ensures)
