use Rattle.ray_grounds.proofs.Telling.{submit_next}
use Rattle.ray_grounds.proofs.submits.last_submit.Goals as goal

pub loop-k-preserved : goal.loop-k-preserved
loop-k-preserved c =
    let l = c.loop-k in
    submit_next _ l.k _ _ _ c.command-command.ensures l.invariant c.submit_after-last.ensures
