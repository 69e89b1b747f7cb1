use Rattle.std.proofs.Common.{refl, sym, arith}
use Rattle.ray_candidates.proofs.Joined.{joined_none, joined_step}
use Rattle.ray_candidates.proofs.gathering.add_structure.Goals as goal

pub loop-geometry-init : goal.loop-geometry-init
loop-geometry-init g c = record { value = sym (joined_none _ _); rising = omega arith }

pub loop-geometry-preserved : goal.loop-geometry-preserved
loop-geometry-preserved g c = record {
  value = joined_step _ _ _ _ _ _ c.loop-geometry.invariant.value refl c.in_ok-add_geometry.ensures.value;
  rising = omega arith;
}
