use Rattle.std.proofs.Common.{ap, option_map, rules, subst, ◌∙◌}
use Rattle.std.specs.Prelude.{IfSome, option_copied}
use Rattle.ray_climb.specs.Refits.{IsRefit}
use Rattle.ray_hierarchy.specs.Hierarchies.{IsTreeOf}
use Rattle.ray_bottom.specs.Trees.{BottomWithTree, items_of}
use Rattle.ray_bottom.specs.Builders.{BuilderWithTree}
use Rattle.ray_bottom.specs.Updating.{IsUpdateOf}
use Rattle.ray_bottom.proofs.Updating.{update-refits}
use Rattle.ray_bottom.proofs.Places.{items-active, items-few}
use Rattle.ray_bottom.proofs.builder.Builder.finish.Goals as goal

pub hierarchy_of-requires-clause-few : goal.hierarchy_of-requires-clause-few
hierarchy_of-requires-clause-few g c =
    let few = items-few c.as_slice-geometries.result.now in
    search rules

pub hierarchy_of-requires-clause-active : goal.hierarchy_of-requires-clause-active
hierarchy_of-requires-clause-active g c =
    let active = items-active c.as_slice-geometries.result.now in
    search rules

pub returns-clause-refit : goal.returns-clause-refit
returns-clause-refit g c =
    let tree = c.in_ok-hierarchy.hierarchy.tree in
    let old = option_copied c.self.inside.replaced in
    let flags = c.flags-flags.result in
    subst (λ (b : BuilderWithTree). IfSome b.replaced (λ (o : BottomWithTree).
    IsUpdateOf o.geometries b.contents.geometries → IsRefit o.tree (items_of b.contents.geometries) tree)) c.self.view_is
    (update-refits old c.self.inside.contents.geometries flags tree c.self.invariant.update
    (subst (λ items. IsTreeOf (option_map (λ (b : BottomWithTree). b.tree) old) flags items tree)
    (c.in_ok-items.ensures ∙ ap items_of c.as_slice-geometries.ensures) c.in_ok-hierarchy.ensures.tree))
