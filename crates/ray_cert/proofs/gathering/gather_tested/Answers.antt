use Rattle.std.proofs.Common.{◌∙◌, ap, arith, drop, length, option_copied, option_map, sym}
use Rattle.ray_top.specs.Instances.{instance_value}
use Rattle.ray_top.specs.Trees.{without_tree}
use Rattle.ray_candidates.specs.Standing.{structures_in}
use Rattle.ray_candidates.proofs.Placing.{placeable}
use Rattle.ray_cert.specs.Certificates.{digits_in}
use Rattle.ray_cert.specs.Checking.{end_of}
use Rattle.ray_cert.proofs.StringsRead.{gathered-all, gathered-goes_on, gathered-more, gathered-stops, stated-for}
use Rattle.ray_cert.proofs.gathering.gather_tested.Goals as goal

pub check_instance-requires-clause-placeable : goal.check_instance-requires-clause-placeable
check_instance-requires-clause-placeable g c =
    placeable (without_tree c.args.top.now) (structures_in c.args.stated.now.bottoms.now) c.loop-number.number (option_copied c.active_instance-instance.result)
    c.len-number-end.ensures.limits c.requires.standing c.active_instance-instance.ensures.value

pub check_instance-requires-clause-stated : goal.check_instance-requires-clause-stated
check_instance-requires-clause-stated g c =
    stated-for c.args.top.now.contents c.args.stated.now.bottoms.now c.args.stated.now.trees.now c.loop-number.number (option_copied c.active_instance-instance.result)
    c.requires.stated c.active_instance-instance.ensures.value

pub returns-in-None-clause-value : goal.returns-in-None-clause-value
returns-in-None-clause-value g c =
    let a = c.args in
    let l = c.loop-number in
    sym (sym l.invariant.value
    ∙ gathered-stops a.told.now.limit.now a.told.now.ray.now a.told.now.flags a.top.now.contents a.stated.now.bottoms.now a.told.now.mask l.number (length a.top.now.contents.instances) (omega arith)
    l.found.items c.check_instance.new.found.items a.told.now.strings.now l.taken (option_map instance_value (option_copied c.active_instance-instance.result))
    c.in_ok-after.after c.active_instance-instance.ensures.value c.in_ok-after.ensures.value c.in-None.is)

pub loop-number-preserved : goal.loop-number-preserved
loop-number-preserved g c =
    let a = c.args in
    let l = c.loop-number in
    let here = ap (λ o. digits_in (drop (end_of (length a.told.now.strings.now) o) a.told.now.strings.now)) c.in-Some.is in
    let cost = c.in_ok-after.ensures.cost in
    let before = l.invariant.cost in
    record {
      value = sym (gathered-goes_on a.told.now.limit.now a.told.now.ray.now a.told.now.flags a.top.now.contents a.stated.now.bottoms.now a.told.now.mask l.number (length a.top.now.contents.instances)
          (omega arith) l.found.items c.check_instance.new.found.items a.told.now.strings.now l.taken
          (option_map instance_value (option_copied c.active_instance-instance.result))
          c.in_ok-after.after c.active_instance-instance.ensures.value c.in_ok-after.ensures.value c.in-Some.next c.in-Some.is)
          ∙ l.invariant.value;
      cost = omega (arith, here, cost, before);
      rising = omega arith;
    }

pub returns-then-taken-told-clause-value : goal.returns-then-taken-told-clause-value
returns-then-taken-told-clause-value g c =
    let a = c.args in
    let l = c.loop-number in
    sym (sym l.invariant.value
    ∙ gathered-more a.told.now.limit.now a.told.now.ray.now a.told.now.flags a.top.now.contents a.stated.now.bottoms.now a.told.now.mask l.number (length a.top.now.contents.instances)
    l.found.items a.told.now.strings.now l.taken (omega arith) (omega arith))

pub returns-clause-value : goal.returns-clause-value
returns-clause-value g c =
    let a = c.args in
    let l = c.loop-number in
    sym (sym l.invariant.value
    ∙ gathered-all a.told.now.limit.now a.told.now.ray.now a.told.now.flags a.top.now.contents a.stated.now.bottoms.now a.told.now.mask l.number (length a.top.now.contents.instances)
    l.found.items a.told.now.strings.now l.taken (omega arith) (omega arith))
