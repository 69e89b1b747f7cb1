use Rattle.std.proofs.Common.{subst, sym}
use Rattle.std.proofs.lemmas.Result.{on_ok_weaker}
use Rattle.ray_queue_check.specs.Arriving.{IsLimitedOn, IsPassed}
use Rattle.ray_queue_check.proofs.Moving.{arriving-still}
use Rattle.ray_queue_check.proofs.arriving.Arriving.pass.Goals as goal

pub returns-in-Barrier : goal.returns-in-Barrier
returns-in-Barrier c = λ low q is z.
    c.hand_on_at.ensures q (subst (IsPassed q c.args.n) c.in-Barrier.is is) z

pub returns-in-Limited : goal.returns-in-Limited
returns-in-Limited c =
    on_ok_weaker c.limit_to_at.result (λ passed low q is z.
    passed q
    (subst (IsLimitedOn q c.args.n c.in-Limited.queue c.in-Limited.barrier) (sym c.as_slice.ensures.value)
    (subst (IsPassed q c.args.n) c.in-Limited.is is)) z) c.limit_to_at.ensures

pub returns-in-Begin : goal.returns-in-Begin
returns-in-Begin c = λ low q is z. c.begin_at.ensures low q (subst (IsPassed q c.args.n) c.in-Begin.is is) z

pub returns-in-Wait : goal.returns-in-Wait
returns-in-Wait c = λ low q is z. c.wait.ensures q c.args.at (subst (IsPassed q c.args.n) c.in-Wait.is is) z

pub returns-in-Other : goal.returns-in-Other
returns-in-Other c = λ low q is z.
    arriving-still q c.args.at c.args.n c.args.self.now (subst (IsPassed q c.args.n) c.in-Other.is is c.args.at) z
