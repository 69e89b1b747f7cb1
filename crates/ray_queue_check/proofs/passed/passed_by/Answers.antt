use Rattle.std.proofs.lemmas.Result.{IfOk-weaker}
use Rattle.ray_cmd.specs.declared.command.Command.TheVariants as commands
use Rattle.ray_queue_check.proofs.Moving.{barrier-here, begin-here, event-here, here-as, nothing-here}
use Rattle.ray_queue_check.proofs.passed.passed_by.Goals as goal

pub returns-in-Barrier : goal.returns-in-Barrier
returns-in-Barrier c =
    IfOk-weaker c.passed_barrier.result _ _ (λ passed is q n here at keeping.
    is q n
    (barrier-here q n c.args.status.now _ c.in-Barrier.src_stages c.in-Barrier.src_access c.in-Barrier.dst_stages
    c.in-Barrier.dst_access c.in-Barrier.buffers c.queue_in.result c.barrier_of-barrier.result
    (here-as q n _ _ _ c.in-Barrier.is here) at c.queue_in.ensures c.barrier_of-barrier.ensures)) c.passed_barrier.ensures

pub returns-in-Begin : goal.returns-in-Begin
returns-in-Begin c = λ q n here at keeping.
    begin-here q n _ c.queue_in-in-Begin.result c.met.result (here-as q n _ _ _ c.in-Begin.is here) c.queue_in-in-Begin.ensures
    (c.met.ensures q n keeping)

pub returns-in-Wait : goal.returns-in-Wait
returns-in-Wait c = λ q n here at keeping. event-here q n commands.Wait _ (here-as q n _ _ _ c.in-Wait.is here)

pub returns-in_default : goal.returns-in_default
returns-in_default c = λ q n here at keeping.
    nothing-here q n c.args.command.now _ here c.in_default.not-Wait c.in_default.not-Begin c.in_default.not-Barrier
