use Rattle.std.proofs.Common.{◌∙◌, ap, Some}
use Rattle.std.proofs.lemmas.Result.{on_ok_weaker}
use Rattle.std.specs.Option.{option_map_or}
use Rattle.ray_chains.specs.Keeping.{hands_to}
use Rattle.ray_chains.specs.Queues.{Other}
use Rattle.ray_hazards.proofs.Carrying.{coverage-still}
use Rattle.ray_sync.specs.Events.{event_of}
use Rattle.ray_sync.specs.OneQueue.{one_queue}
use Rattle.ray_sync.proofs.OneQueue.{barrier-at, one-queue-acts, rests}
use Rattle.ray_sync.proofs.passing.pass.Goals as goal

pub returns-in-Barrier : goal.returns-in-Barrier
returns-in-Barrier c =
    on_ok_weaker c.pass_barrier.result (λ passed rec there status carried.
    passed rec
    (barrier-at rec c.args.n c.args.status.now c.in-Barrier.src_stages c.in-Barrier.src_access c.in-Barrier.dst_stages
    c.in-Barrier.dst_access c.in-Barrier.buffers c.barrier_of-barrier.result (there ∙ ap Some c.in-Barrier.is) status
    c.barrier_of-barrier.ensures) carried) c.pass_barrier.ensures

pub returns-in-Wait : goal.returns-in-Wait
returns-in-Wait c = λ rec there status carried.
    c.wait.ensures (one_queue rec) 0 (one-queue-acts rec)
    (ap (λ o. option_map_or event_of o Other) (there ∙ ap Some c.in-Wait.is)) carried

pub returns-in_default : goal.returns-in_default
returns-in_default c = λ rec there status carried.
    coverage-still (one_queue rec) 0 c.args.n c.args.coverage.now
    (ap (hands_to 0) (ap (λ o. option_map_or event_of o Other) there
    ∙ rests c.args.command.now c.in_default.not-Wait c.in_default.not-Barrier))
    carried
