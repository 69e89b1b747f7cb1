use Rattle.std.proofs.Common.{◌∙◌, subst, sym}
use Rattle.std.specs.Prelude.{◌==◌}
use Rattle.ray_queue_check.specs.Lanes.{IsUsed}
use Rattle.ray_queue_check.proofs.lanes.QueueLanes.mark.Goals as goal

pub returns : goal.returns
returns c = λ q at is used. record {
  zero =
      c.in_ok-self.ensures q 0 (c.is_queue.ensures ∙ λ i. at i == 0) is
      (subst (IsUsed q 0 c.args.cells.now c.args.n) (sym c.take-zero.ensures.value) used.zero);
  one =
      c.in_ok-self-2.ensures q 1 (c.is_queue-2.ensures ∙ λ i. at i == 1) is
      (subst (IsUsed q 1 c.args.cells.now c.args.n) (sym c.take-one.ensures.value) used.one);
  two =
      c.in_ok-self-3.ensures q 2 (c.is_queue-3.ensures ∙ λ i. at i == 2) is
      (subst (IsUsed q 2 c.args.cells.now c.args.n) (sym c.take-two.ensures.value) used.two);
  three =
      c.in_ok-self-4.ensures q 3 (c.is_queue-4.ensures ∙ λ i. at i == 3) is
      (subst (IsUsed q 3 c.args.cells.now c.args.n) (sym c.take-three.ensures.value) used.three);
}
