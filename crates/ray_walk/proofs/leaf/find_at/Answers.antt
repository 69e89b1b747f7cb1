use Rattle.ray_top.specs.Trees.{without_tree}
use Rattle.ray_walk.specs.Scenes.{placement_value}
use Rattle.ray_candidates.specs.Standing.{structures_in}
use Rattle.ray_candidates.proofs.Placing.{placeable_at}
use Rattle.ray_walk.proofs.WellPlaced.{is_placement, well_placed}
use Rattle.ray_walk.proofs.leaf.find_at.Goals as goal

pub find_in-requires-clause-kept : goal.find_in-requires-clause-kept
find_in-requires-clause-kept c =
    let w = c.known.ensures in
    (well_placed c.args.view.now c.args.i (placement_value c.args.looked.now) w.top w.standing w.bottoms c.requires.is_it).kept

pub find_in-requires-clause-instance_agrees : goal.find_in-requires-clause-instance_agrees
find_in-requires-clause-instance_agrees c =
    let w = c.known.ensures in
    let s = c.args.view.now in
    let p = placement_value c.args.looked.now in
    (placeable_at (without_tree s.top) (structures_in s.bottoms) c.args.i p.instance w.top w.standing (is_placement s c.args.i p c.requires.is_it).active).agrees
