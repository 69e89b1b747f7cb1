use Rattle.std.proofs.Common.{ap, ◌∙◌}
use Rattle.ray_geom.proofs.LeastBoxes.{IsLeastOf-boxes}
use Rattle.ray_geometries.specs.Contents.{active_boxes, bounds_of}
use Rattle.ray_bottom.specs.Trees.{BottomWithTree}
use Rattle.ray_bottom.proofs.bottom.Bottom.bounds.Goals as goal

pub returns-clause-least : goal.returns-clause-least
returns-clause-least c =
    (IsLeastOf-boxes (active_boxes c.args.self.now.geometries) c.bounds.result
    (c.bounds.ensures ∙ ap (λ (v : BottomWithTree). bounds_of v.geometries) c.self.view_is)).0

pub returns-clause-none : goal.returns-clause-none
returns-clause-none c =
    (IsLeastOf-boxes (active_boxes c.args.self.now.geometries) c.bounds.result
    (c.bounds.ensures ∙ ap (λ (v : BottomWithTree). bounds_of v.geometries) c.self.view_is)).1
