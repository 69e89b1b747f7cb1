use Rattle.std.proofs.Common.{arith}
use Rattle.std.proofs.lemmas.Result.{on_ok_weaker}
use Rattle.ray_queue_check.proofs.everywhere.Everywhere.pass.Goals as goal

pub returns : goal.returns
returns c =
    on_ok_weaker c.pass-4.result (λ last q is z. record {
      zero = c.in_ok-pass.ensures (omega arith) q is z.zero;
      one = c.in_ok-pass-2.ensures (omega arith) q is z.one;
      two = c.in_ok-pass-3.ensures (omega arith) q is z.two;
      three = last (omega arith) q is z.three;
    })
    c.pass-4.ensures
