use Rattle.ray_causes.proofs.Telling.{status_next}
use Rattle.ray_causes.proofs.finding.status_before.Goals as goal

pub loop-i-preserved : goal.loop-i-preserved
loop-i-preserved c =
    let l = c.loop-i in
    status_next _ l.i _ _ _ c.command-command.ensures l.invariant c.in_ok-step.ensures
