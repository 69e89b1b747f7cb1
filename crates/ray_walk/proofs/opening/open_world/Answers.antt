use Rattle.std.proofs.Common.{subst, ◌∙◌}
use Rattle.std.proofs.lemmas.Result.{on_ok_weaker}
use Rattle.ray_nearest.specs.Adding.{AddsNodes}
use Rattle.ray_walk.specs.declared.level.Level.{Level}
use Rattle.ray_walk.specs.WideScene.{inner_at, wide_scene}
use Rattle.ray_walk.proofs.Descending.{below-top, down, world-ways}
use Rattle.ray_walk.proofs.LeftOut.{top-trees, trees-as}
use Rattle.ray_walk.proofs.opening.open_world.Goals as goal

pub descend-at-requires-clause-trees : goal.descend-at-requires-clause-trees
descend-at-requires-clause-trees c =
    let s = c.args.view.now in
    let told = c.world-trees.ensures in
    trees-as c.world-trees.result.tree.now s.top.tree c.world-trees.result.wide.now s.top.wide told.tree told.wide (top-trees s c.known.ensures)

pub push_children-requires-clause-trees : goal.push_children-requires-clause-trees
push_children-requires-clause-trees c =
    let s = c.args.view.now in
    let told = c.world-trees.ensures in
    trees-as c.world-trees.result.tree.now s.top.tree c.world-trees.result.wide.now s.top.wide told.tree told.wide (top-trees s c.known.ensures)

pub returns-clause-opened : goal.returns-clause-opened
returns-clause-opened c =
    let s = c.args.view.now in
    let t = c.world-trees.result in
    let old = c.args.turns.now in
    let new = c.push_children.new.turns in
    let told = c.world-trees.ensures in
    let way = c.descend-at.ensures.down in
    let ways = world-ways s t told.tree told.wide (told.ray ∙ (c.sight_at-window.ensures.ray ∙ c.requires.aim.ray_is)) told.level in
    on_ok_weaker c.push_children.result
    (λ added. below-top s c.args.limit c.args.w old new
    (subst (λ (l : Level). AddsNodes c.args.limit (wide_scene s) ((wide_scene s).below (inner_at l c.args.w)) old new) told.level
    (down c.args.limit t (wide_scene s) ways way.levels c.args.w c.descend-at.result.at old new way.leads added))) c.push_children.ensures.added
