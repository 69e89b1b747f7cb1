use Rattle.std.proofs.Common.{◌+◌, arith}
use Rattle.ray_causes.proofs.Telling.{status_next}
use Rattle.ray_clash.proofs.Handed.{going_first, going_next}
use Rattle.ray_clash.proofs.handing.passed_to.Goals as goal

pub loop-n-init : goal.loop-n-init
loop-n-init c =
    going_first c.args.rec.now c.args.i (c.args.i + 1) c.args.asking.now c.in_ok-status.status c.nowhere-passed.result
    (omega arith) c.in_ok-status.ensures (c.nowhere-passed.ensures c.args.asking.now.to c.args.asking.now.access)

pub loop-n-preserved : goal.loop-n-preserved
loop-n-preserved c =
    let l = c.loop-n in
    going_next c.args.rec.now c.args.i l.n c.args.asking.now l.status c.step.new.self l.passed c.next-passed.result
    c.command-command.result.now (omega arith) c.command-command.ensures l.invariant
    (status_next c.args.rec.now l.n l.status c.step.new.self c.command-command.result.now c.command-command.ensures
    l.invariant.status c.in_ok-step.ensures)
    c.next-passed.ensures
