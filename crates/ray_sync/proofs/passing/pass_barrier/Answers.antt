use Rattle.std.proofs.Common.{◌∙◌, ap, subst}
use Rattle.std.proofs.lemmas.Result.{on_ok_weaker}
use Rattle.ray_hazards.specs.Carrying.{makers_of}
use Rattle.ray_hazards.proofs.Carrying.{makers-named}
use Rattle.ray_sync.specs.OneQueue.{IsBarrierAt, one_queue}
use Rattle.ray_sync.proofs.OneQueue.{one-queue-acts}
use Rattle.ray_sync.proofs.passing.pass_barrier.Goals as goal

pub returns-in_ok-makers-in-Some : goal.returns-in_ok-makers-in-Some
returns-in_ok-makers-in-Some c =
    on_ok_weaker c.limit_to.result (λ limited rec is carried.
    let at = subst (IsBarrierAt rec c.args.n c.args.status.now c.args.barrier.now) c.in-Some.is is in
    limited (one_queue rec) 0 c.in-Some.ids (one-queue-acts rec) at.event
    (makers-named (one_queue rec) c.args.n c.args.status.now c.in-Some.ids c.as_slice-in-Some.result.now at.acts
    (c.as_slice-in-Some.ensures.value
    ∙ (c.in_ok-makers-in-Some.ensures ∙ ap (makers_of c.args.status.now) c.as_slice.ensures.items)))
    carried) c.limit_to.ensures

pub returns-in-None : goal.returns-in-None
returns-in-None c = λ rec is carried.
    let at = subst (IsBarrierAt rec c.args.n c.args.status.now c.args.barrier.now) c.in-None.is is in
    c.hand_on.ensures (one_queue rec) 0 (one-queue-acts rec) at.event carried
