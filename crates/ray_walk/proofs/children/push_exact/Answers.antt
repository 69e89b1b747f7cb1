use Rattle.std.proofs.Common.{subst}
use Rattle.std.proofs.lemmas.Result.{on_ok_weaker}
use Rattle.ray_geom.specs.Boxes.{BoxValue}
use Rattle.ray_nearest.specs.Adding.{AddsNode, AddsOne}
use Rattle.ray_candidates.specs.Placements.{entry_in}
use Rattle.ray_walk.proofs.children.push_exact.Goals as goal

pub returns : goal.returns
returns c =
    on_ok_weaker c.push_met.result
    (λ one. subst (λ (b : BoxValue). AddsOne (AddsNode c.args.limit (λ n. entry_in c.args.trees.now.ray.now b) c.args.node) c.args.turns.now c.push_met.new.turns)
    c.lane_box.ensures one) c.push_met.ensures
