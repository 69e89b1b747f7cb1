use Rattle.std.proofs.lemmas.Result.{on_ok_weaker}
use Rattle.ray_wide.specs.Wides.{lane_box}
use Rattle.ray_nearest.proofs.Added.{pushed_node}
use Rattle.ray_candidates.specs.Placements.{entry_in}
use Rattle.ray_walk.proofs.Told.{low-waits}
use Rattle.ray_walk.proofs.children.push_from.Goals as goal

pub returns-in_default : goal.returns-in_default
returns-in_default c =
    let own = entry_in c.args.trees.now.ray.now (lane_box c.args.lanes.now c.args.k) in
    on_ok_weaker c.push_node.result
    (pushed_node c.args.limit c.args.turns.now c.push_node.new.self (λ n. own) c.args.node c.low_of.result
    (low-waits c.args.node own c.low_of.result ((c.requires.eight c.args.k c.requires.few c.requires.limits).low c.low_of.result c.low_of.ensures) c.in_default.not-Leaf))
    c.push_node.ensures
