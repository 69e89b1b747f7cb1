use Rattle.std.proofs.Common.{subst, ◌∙◌}
use Rattle.std.proofs.lemmas.Result.{on_ok_weaker}
use Rattle.ray_nearest.specs.Adding.{AddsNodes}
use Rattle.ray_walk.specs.declared.level.Level.{Level}
use Rattle.ray_walk.specs.Scenes.{placement_value}
use Rattle.ray_walk.specs.WideScene.{inner_at, wide_scene}
use Rattle.ray_walk.proofs.Descending.{below-inner, down, object-ways}
use Rattle.ray_walk.proofs.LeftOut.{bottom-trees, trees-as}
use Rattle.ray_walk.proofs.WellPlaced.{is_placement}
use Rattle.ray_walk.proofs.opening.open_object.Goals as goal

pub descend-at-requires-clause-trees : goal.descend-at-requires-clause-trees
descend-at-requires-clause-trees c =
    let s = c.args.view.now in
    let p = placement_value c.args.looked.now in
    let told = c.object-trees.ensures in
    let sound = c.known.ensures.bottoms.each p.instance.id p.bottom (is_placement s c.args.i p c.requires.looked.placed).stands in
    trees-as c.object-trees.result.tree.now p.bottom.tree c.object-trees.result.wide.now p.bottom.wide told.tree told.wide (bottom-trees p.bottom sound)

pub push_children-requires-clause-trees : goal.push_children-requires-clause-trees
push_children-requires-clause-trees c =
    let s = c.args.view.now in
    let p = placement_value c.args.looked.now in
    let told = c.object-trees.ensures in
    let sound = c.known.ensures.bottoms.each p.instance.id p.bottom (is_placement s c.args.i p c.requires.looked.placed).stands in
    trees-as c.object-trees.result.tree.now p.bottom.tree c.object-trees.result.wide.now p.bottom.wide told.tree told.wide (bottom-trees p.bottom sound)

pub returns-clause-opened : goal.returns-clause-opened
returns-clause-opened c =
    let s = c.args.view.now in
    let p = placement_value c.args.looked.now in
    let i = c.args.i in
    let t = c.object-trees.result in
    let old = c.args.turns.now in
    let new = c.push_children.new.turns in
    let told = c.object-trees.ensures in
    let way = c.descend-at.ensures.down in
    let ways = object-ways s t i p c.requires.looked.placed told.tree told.wide (told.ray ∙ (c.sight_at-window.ensures.ray ∙ c.requires.looked.ray_is)) told.level in
    on_ok_weaker c.push_children.result
    (λ added. below-inner s c.args.limit i c.args.w old new
    (subst (λ (l : Level). AddsNodes c.args.limit (wide_scene s) ((wide_scene s).below (inner_at l c.args.w)) old new) told.level
    (down c.args.limit t (wide_scene s) ways way.levels c.args.w c.descend-at.result.at old new way.leads added))) c.push_children.ensures.added
