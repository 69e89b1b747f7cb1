use Rattle.std.proofs.Common.{Some}
use Rattle.ray_chains.specs.declared.access_type.AccessType.TheVariants.{TransferWrite}
use Rattle.ray_chains.specs.declared.stage.Stage.TheVariants.{Transfer}
use Rattle.ray_queue_check.specs.Arriving.{far_source, several_queues}
use Rattle.ray_queue_check.proofs.Moving.{several-acts}
use Rattle.ray_queue_check.proofs.arriving.Arriving.begin.Goals as goal

pub returns : goal.returns
returns c = λ q at is own z. record {
  own = c.begin.ensures (several_queues q) at is.waits (several-acts q) is.is (own is.waits is.met) z.own;
  zero = λ apart.
      c.begin-2.ensures (several_queues q) (far_source 0) at c.args.n is.waits (several-acts q) is.is
      (is.met.zero Transfer (Some TransferWrite)) (z.zero apart);
  one = λ apart.
      c.begin-3.ensures (several_queues q) (far_source 1) at c.args.n is.waits (several-acts q) is.is
      (is.met.one Transfer (Some TransferWrite)) (z.one apart);
  two = λ apart.
      c.begin-4.ensures (several_queues q) (far_source 2) at c.args.n is.waits (several-acts q) is.is
      (is.met.two Transfer (Some TransferWrite)) (z.two apart);
  three = λ apart.
      c.begin-5.ensures (several_queues q) (far_source 3) at c.args.n is.waits (several-acts q) is.is
      (is.met.three Transfer (Some TransferWrite)) (z.three apart);
}
