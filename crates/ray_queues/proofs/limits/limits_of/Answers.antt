use Rattle.std.proofs.Common.{◌<◌, ◌∙◌, subst, sym}
use Rattle.ray_submits.specs.Submits.{queue_of}
use Rattle.ray_queues.specs.Sources.{ArePerQueue, number_at}
use Rattle.ray_queues.proofs.Named.{queue-below}
use Rattle.ray_queues.proofs.Ordered.{device-limits, barrier-limits-all, host-limits-all}
use Rattle.ray_queues.proofs.limits.limits_of.Goals as goal

pub returns-in-Device : goal.returns-in-Device
returns-in-Device c = λ q have is waited low kind queue.
    let n = c.args.n in
    let below = subst (λ k. k < 4) (sym queue) (queue-below q have n) in
    device-limits q n have c.in-Device.stage c.at.result (sym c.in-Device.is ∙ kind)
    (subst (λ to. ArePerQueue (number_at q (queue_of q n) n to) c.at.result) c.chain_stage.ensures
    (subst (λ at. ArePerQueue (number_at q at n c.chain_stage.result) c.at.result) queue
    (c.at.ensures q c.args.queue n (c.of.ensures below q n is))))

pub returns-in-Barrier : goal.returns-in-Barrier
returns-in-Barrier c = λ q have is waited low kind queue.
    barrier-limits-all q c.args.n have _ c.all.ensures (sym c.in-Barrier.is ∙ kind)

pub returns-in-HostCommand : goal.returns-in-HostCommand
returns-in-HostCommand c = λ q have is waited low kind queue.
    host-limits-all q c.args.n have _ c.args.waited c.all-in-HostCommand.ensures (sym c.in-HostCommand.is ∙ kind) waited low
