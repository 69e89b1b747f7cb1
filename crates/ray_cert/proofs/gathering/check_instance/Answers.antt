use Rattle.std.proofs.Common.{IfSome, ap, option_copied, option_map, subst, sym}
use Rattle.ray_bottom.specs.Trees.{without_tree}
use Rattle.ray_candidates.specs.Standing.{structures_in}
use Rattle.ray_candidates.specs.Telling.{IsPlaceable}
use Rattle.ray_top.specs.Instances.{instance_value}
use Rattle.ray_cert.proofs.gathering.check_instance.Goals as goal

pub check_next-requires-clause-kept : goal.check_next-requires-clause-kept
check_next-requires-clause-kept g c =
    let placeable = subst (λ o. IfSome (option_copied o) (λ i. IsPlaceable (structures_in c.args.stated.now.bottoms.now) (instance_value i))) c.in-Some.is c.requires.placeable in
    placeable.kept (without_tree c.in-Some-get.bottom.now) (ap (option_map without_tree) (sym c.in-Some-get.ensures))
