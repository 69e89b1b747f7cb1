use Rattle.std.proofs.Common.{refl, subst, sym}
use Rattle.std.proofs.lemmas.Result.{on_ok_weaker}
use Rattle.ray_geom.specs.Boxes.{BoxValue}
use Rattle.ray_wide.specs.declared.node.WideRef.{WideRef}
use Rattle.ray_wide.specs.Wides.{top_at}
use Rattle.ray_nearest.specs.Adding.{AddsNode, AddsOne}
use Rattle.ray_walk.specs.Aims.{AddsThrough, HasLane}
use Rattle.ray_candidates.specs.Placements.{entry_in}
use Rattle.ray_walk.specs.WideScene.{child}
use Rattle.ray_walk.proofs.Pushing.{pushed-inner, pushed-leaf}
use Rattle.ray_walk.proofs.children.push_below.Goals as goal

pub returns-in-Leaf-clause-added : goal.returns-in-Leaf-clause-added
returns-in-Leaf-clause-added c =
    let t = c.args.trees.now in
    let old = c.args.turns.now in
    let new = c.push_lane.new.turns in
    let lane = subst (λ (b : WideRef). HasLane t.tree.now t.wide.now c.args.lanes.now c.args.k b) c.in-Leaf.is c.requires.lane in
    on_ok_weaker c.push_lane.result
    (λ one. subst (λ (b : WideRef). AddsThrough c.args.limit t (child t.level b) old new) (sym c.in-Leaf.is)
    (pushed-leaf t c.args.limit old new c.in-Leaf.leaf.node c.leaf_at-node.result c.leaf_at-node.ensures
    (subst (λ (b : BoxValue). AddsOne (AddsNode c.args.limit (λ m. entry_in t.ray.now b) c.leaf_at-node.result) old new) lane.0.same one))) c.push_lane.ensures

pub returns-in-Inner-clause-added : goal.returns-in-Inner-clause-added
returns-in-Inner-clause-added c =
    let t = c.args.trees.now in
    let old = c.args.turns.now in
    let new = c.push_lane-in-Inner.new.turns in
    let lane = subst (λ (b : WideRef). HasLane t.tree.now t.wide.now c.args.lanes.now c.args.k b) c.in-Inner.is c.requires.lane in
    on_ok_weaker c.push_lane-in-Inner.result
    (λ one. subst (λ (b : WideRef). AddsThrough c.args.limit t (child t.level b) old new) (sym c.in-Inner.is)
    (pushed-inner t c.args.limit old new c.in-Inner.w (top_at t.wide.now.tops c.in-Inner.w) c.inner_at-node.result c.inner_at-node.ensures refl
    (subst (λ (b : BoxValue). AddsOne (AddsNode c.args.limit (λ m. entry_in t.ray.now b) c.inner_at-node.result) old new) lane.same one)))
    c.push_lane-in-Inner.ensures
