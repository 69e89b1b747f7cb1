use Rattle.std.proofs.Common.{◌∙◌, List, length, ap, refl}
use Rattle.ray_cmd.specs.declared.command.Command.{Command}
use Rattle.ray_action.specs.Clients.{scripts}
use Rattle.ray_queues.specs.QueueOrder.{queue_order}
use Rattle.ray_ready.specs.Accepted.{refused_from}
use Rattle.ray_permitted.specs.Job.{in_order}
use Rattle.vkray.specs.declared.asked.Asked.TheVariants.{Queues}
use Rattle.vkray.proofs.Ended.{ends}
use Rattle.vkray.proofs.running.run_queued.Goals as goal

pub returns-in-Ok : goal.returns-in-Ok
returns-in-Ok g c =
    let q = c.args.queued.now in
    ends (Queues c.args.workers) refl (in_order q.commands (scripts q.commands) (queue_order q)) c.in-Ok.refusal _ c.end_of-until.result c.in-Ok.ensures.value
    (c.end_of-until.ensures ∙ ap (λ (rec : List Command). refused_from (length rec) c.in-Ok.refusal) c.recording.ensures)
    c.run_queued_until-run.result c.run_queued_until-run.ensures c.ended.result c.ended.ensures
