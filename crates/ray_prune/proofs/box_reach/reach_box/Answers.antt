use Rattle.ray_prune.proofs.Entries.{IsSameReach-of, reach_of-some, reach_of-none}
use Rattle.ray_prune.specs.BoxReach.{reach_of}
use Rattle.ray_prune.proofs.box_reach.reach_box.Goals as goal

pub returns-clause-value : goal.returns-clause-value
returns-clause-value c =
    let ray = c.args.ray.now in
    let box = c.args.b.now in
    IsSameReach-of ray box c.narrowed.result (reach_of ray box) c.narrowed.ensures.some c.narrowed.ensures.none
    (reach_of-some ray box) (reach_of-none ray box)
