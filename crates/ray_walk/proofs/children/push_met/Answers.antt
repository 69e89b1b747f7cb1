use Rattle.std.proofs.Common.{subst}
use Rattle.std.proofs.lemmas.Result.{on_ok_weaker}
use Rattle.ray_prune.specs.BoxReach.{IsSameReach, reach_of}
use Rattle.ray_nearest.proofs.Added.{pushed_node}
use Rattle.ray_nearest.proofs.Waits.{value-waits}
use Rattle.ray_candidates.specs.Placements.{entry_in}
use Rattle.ray_walk.proofs.Pushing.{same-entry}
use Rattle.ray_walk.proofs.children.push_met.Goals as goal

pub returns-in-Some : goal.returns-in-Some
returns-in-Some c =
    let object = c.args.ray.now in
    let box = c.args.bounds.now in
    let same = subst (λ o. IsSameReach o (reach_of object box)) c.in-Some.is c.reach_box.ensures.value in
    on_ok_weaker c.push_node.result
    (pushed_node c.args.limit c.args.turns.now c.push_node.new.self (λ n. entry_in object box) c.args.node c.in-Some.reach.entry
    (value-waits c.args.node (entry_in object box) c.in-Some.reach.entry (same-entry c.in-Some.reach (reach_of object box) same))) c.push_node.ensures
