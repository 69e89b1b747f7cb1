use Rattle.ray_queue_check.proofs.Reaching.{all-here, all-shown}
use Rattle.ray_queue_check.proofs.everywhere.Everywhere.limits.Goals as goal

pub returns-in-Host : goal.returns-in-Host
returns-in-Host c = λ low q n at z.
    all-shown q n c.args.accessed c.chain_stage-stage.result c.chain_access-access.result c.shown.result c.in-Host.is
    c.chain_stage-stage.ensures c.chain_access-access.ensures (c.shown.ensures q n z)

pub returns-in_default : goal.returns-in_default
returns-in_default c = λ low q n at z.
    all-here q n c.args.queue c.args.accessed c.chain_stage-stage.result c.chain_access-access.result c.at.result
    c.in_default.not-Host at c.chain_stage-stage.ensures c.chain_access-access.ensures (c.at.ensures low q n z)
