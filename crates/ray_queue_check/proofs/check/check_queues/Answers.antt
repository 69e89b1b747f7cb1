use Rattle.std.proofs.Common.{◌∙◌, ap, subst}
use Rattle.ray_hazards.specs.Lasts.{HaveStarts}
use Rattle.ray_hazards.proofs.Starting.{starts-like}
use Rattle.ray_queues.specs.Refusals.{first_queue_refusal}
use Rattle.ray_queue_check.specs.Sooner.{sooner}
use Rattle.ray_queue_check.proofs.Joined.{joined-is}
use Rattle.ray_queue_check.proofs.check.check_queues.Goals as goal

pub checked-requires-clause-starts : goal.checked-requires-clause-starts
checked-requires-clause-starts c =
    starts-like c.args.rec.now.commands c.in_ok-starts.starts.keys c.in_ok-cells.cells c.until-until.result c.in_ok-cells.ensures
    (subst (λ cs. HaveStarts cs c.in_ok-starts.starts.keys c.until-until.result) c.recording-2.ensures c.in_ok-starts.ensures)

pub returns : goal.returns
returns c =
    c.sooner.ensures
    ∙ ((λ i. sooner (c.in_ok-hazard.ensures i) (c.in_ok-semaphore.ensures i))
    ∙ (joined-is c.args.rec.now c.until-until.result ∙ ap (first_queue_refusal c.args.rec.now) c.until-until.ensures))
