use Rattle.std.proofs.Common.{◌∙◌, sym, ap, arith, option_copied}
use Rattle.ray_top.specs.Trees.{without_tree}
use Rattle.ray_candidates.specs.Candidates.{found_in_instance}
use Rattle.ray_candidates.specs.Standing.{structures_in}
use Rattle.ray_candidates.proofs.Joined.{joined-zero, joined_first}
use Rattle.ray_candidates.proofs.Placing.{placeable}
use Rattle.ray_candidates.proofs.gathering.gather.Goals as goal

pub loop-number-init : goal.loop-number-init
loop-number-init g c = record { value = c.new-found.ensures.items ∙ sym (joined-zero _); rising = omega arith }

pub add_instance-requires-clause-placeable : goal.add_instance-requires-clause-placeable
add_instance-requires-clause-placeable g c =
    placeable (without_tree c.args.top.now) (structures_in c.args.bottoms.now) c.loop-number.number (option_copied c.active_instance-instance.result)
    c.len-number-end.ensures.limits c.requires.standing c.active_instance-instance.ensures.value

pub loop-number-preserved : goal.loop-number-preserved
loop-number-preserved g c = record {
  value = joined_first _ _ _ _ _ c.loop-number.invariant.value
      (ap (found_in_instance (structures_in c.args.bottoms.now) c.args.ray.now c.args.flags c.args.mask c.loop-number.number) c.active_instance-instance.ensures.value)
      c.in_ok-add_instance.ensures.value;
  rising = omega arith;
}
