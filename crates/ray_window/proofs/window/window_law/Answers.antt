use Rattle.ray_window.proofs.Windows.{window-holds, window-near}
use Rattle.ray_window.proofs.window.window_law.Goals as goal

pub returns-clause-met : goal.returns-clause-met
returns-clause-met c =
    λ limit n d positive inside up.
    window-holds c.args._ray.now c.args._b.now c.det-det.ensures.limits c.lo-lo.ensures.limits limit n d positive inside up

pub returns-clause-near : goal.returns-clause-near
returns-clause-near c = λ limit. window-near c.args._ray.now limit
