use Rattle.std.proofs.Common.{sym, arith}
use Rattle.ray_candidates.proofs.Joined.{joined_none, joined_step}
use Rattle.ray_candidates.proofs.gathering.add_primitives.Goals as goal

pub loop-primitive-init : goal.loop-primitive-init
loop-primitive-init g c = record { value = sym (joined_none _ _); rising = omega arith }

pub loop-primitive-preserved : goal.loop-primitive-preserved
loop-primitive-preserved g c = record {
  value = joined_step _ _ _ _ _ _ c.loop-primitive.invariant.value c.find.ensures.value c.in_ok-add.ensures;
  rising = omega arith;
}
