use Rattle.std.proofs.Common.{◌∙◌, ap, subst}
use Rattle.ray_hazards.specs.Carrying.{makers_of}
use Rattle.ray_hazards.proofs.Carrying.{makers-named}
use Rattle.ray_queue_check.specs.Arriving.{several_queues}
use Rattle.ray_queue_check.specs.Passing.{IsBarrierHere}
use Rattle.ray_queue_check.proofs.passed.passed_barrier.Goals as goal

pub returns-in_ok-makers-in-Some : goal.returns-in_ok-makers-in-Some
returns-in_ok-makers-in-Some c = λ q n is.
    let at = subst (IsBarrierHere q n c.args.status.now c.args.queue c.args.barrier) c.in-Some.is is in
    record {
      ids = c.in-Some.ids;
      is = at.event;
      named =
          makers-named (several_queues q) n c.args.status.now c.in-Some.ids c.in_ok-makers-in-Some.makers.items at.acts
          (c.in_ok-makers-in-Some.ensures ∙ ap (makers_of c.args.status.now) c.as_slice.ensures.items);
    }

pub returns-in-None : goal.returns-in-None
returns-in-None c = λ q n is.
    let at = subst (IsBarrierHere q n c.args.status.now c.args.queue c.args.barrier) c.in-None.is is in
    at.event
