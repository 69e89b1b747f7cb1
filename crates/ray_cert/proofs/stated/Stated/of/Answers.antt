use Rattle.std.proofs.Common.{arith, option_copied, option_map}
use Rattle.ray_top.specs.Instances.{instance_value}
use Rattle.ray_cert.proofs.Growing.{all-stated, none-below, one-more}
use Rattle.ray_cert.proofs.stated.Stated.of.Goals as goal

pub loop-number-init : goal.loop-number-init
loop-number-init g c = record {
  stated = none-below c.args.top.now.contents c.args.bottoms.now c.new-trees.result c.new-trees.ensures;
  rising = omega arith;
}

pub add_structure-requires : goal.add_structure-requires
add_structure-requires g c = c.loop-number.invariant.stated.right

pub loop-number-preserved : goal.loop-number-preserved
loop-number-preserved g c = record {
  stated = one-more c.args.top.now.contents c.args.bottoms.now c.loop-number.trees c.add_structure.new.trees c.loop-number.number
      (option_map instance_value (option_copied c.active_instance-instance.result)) c.loop-number.invariant.stated c.active_instance-instance.ensures.value
      c.in_ok-add_structure.ensures.grown;
  rising = omega arith;
}

pub returns-clause-stated : goal.returns-clause-stated
returns-clause-stated g c =
    all-stated c.args.top.now.contents c.args.bottoms.now c.loop-number.trees c.loop-number.number (omega arith) c.loop-number.invariant.stated
