use Rattle.std.proofs.Common.{◌∙◌, ◌∷◌, [], ap}
use Rattle.ray_wide.specs.Lanes.{lanes_by, lanes_for}
use Rattle.ray_wide.proofs.Eights.{listed}
use Rattle.ray_wide.proofs.fill.lanes_of.Goals as goal

pub returns : goal.returns
returns c =
    c.beside.ensures
    ∙ (λ i. lanes_by (
    c.lane_for.ensures i ∷ c.lane_for-2.ensures i ∷ c.lane_for-3.ensures i ∷ c.lane_for-4.ensures i
    ∷ c.lane_for-5.ensures i ∷ c.lane_for-6.ensures i ∷ c.lane_for-7.ensures i ∷ c.lane_for-8.ensures i ∷ []))
    ∙ ap (λ cs. lanes_by (lanes_for c.args.tree.now c.args.tops.now cs)) (listed c.args.children.now _ _ _ _ _ _ _ _ c.told-children)
