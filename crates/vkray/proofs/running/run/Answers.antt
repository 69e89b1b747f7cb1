use Rattle.std.proofs.Common.{refl}
use Rattle.ray_action.specs.Clients.{scripts}
use Rattle.ray_permitted.specs.Job.{on_one_queue}
use Rattle.vkray.specs.declared.asked.Asked.TheVariants.{Run}
use Rattle.vkray.proofs.Ended.{ends}
use Rattle.vkray.proofs.running.run.Goals as goal

pub returns-in-Ok : goal.returns-in-Ok
returns-in-Ok g c =
    let rec = c.args.recording.now in
    ends (Run c.args.workers) refl (on_one_queue rec (scripts rec)) c.in-Ok.refusal _ c.end_of-until.result c.in-Ok.ensures.value c.end_of-until.ensures
    c.run_until-run.result c.run_until-run.ensures.run c.ended.result c.ended.ensures
