use Rattle.std.proofs.Common.{◌∙◌, map, sym, subst, ap}
use Rattle.ray_wide.specs.Wides.{IsCollapsed, IsSameButLanes, wide_value}
use Rattle.ray_wide.specs.Lanes.{filled}
use Rattle.ray_wide.proofs.Laning.{refitted, same_but_lanes}
use Rattle.ray_wide.proofs.wide.Wide.refit.Goals as goal

pub returns-clause-over : goal.returns-clause-over
returns-clause-over c =
    let tree = c.args.tree.now in
    let old = c.self.inside in
    refitted tree old.root old.tops.items old.nodes.items c.fill_all.new.nodes.items c.shape.ensures
    (subst (λ w. IsCollapsed w tree.nodes) (sym c.self.view_is) c.requires)
    (c.fill_all.ensures ∙ ap (λ ts. map (filled tree ts) old.nodes.items) c.deref.ensures.value)

pub returns-clause-same : goal.returns-clause-same
returns-clause-same c =
    let tree = c.args.tree.now in
    let old = c.self.inside in
    subst (λ w. IsSameButLanes w (wide_value old.root c.fill_all.new.nodes.items old.tops.items)) c.self.view_is
    (same_but_lanes tree old.root old.tops.items old.nodes.items c.fill_all.new.nodes.items
    (c.fill_all.ensures ∙ ap (λ ts. map (filled tree ts) old.nodes.items) c.deref.ensures.value))
