use Rattle.std.proofs.Common.{Option, ap, subst, sym, ◌∙◌}
use Rattle.std.proofs.lemmas.Result.{on_ok_weaker}
use Rattle.ray_tree.specs.Trees.{TreeValue}
use Rattle.ray_wide.specs.declared.node.WideRef.{WideRef}
use Rattle.ray_wide.specs.Wides.{WideValue}
use Rattle.ray_walk.specs.declared.level.Level.TheVariants.{Object}
use Rattle.ray_walk.specs.Aims.{HasBox}
use Rattle.ray_walk.specs.Scenes.{AddsWide, placement_value}
use Rattle.ray_candidates.specs.Placements.{Placement}
use Rattle.ray_walk.specs.WideScene.{child, root_by}
use Rattle.ray_walk.proofs.LeftOut.{root-box}
use Rattle.ray_walk.proofs.Pushing.{object-entries, through-object}
use Rattle.ray_walk.proofs.WellPlaced.{is_placement}
use Rattle.ray_walk.proofs.opening.push_root_of.Goals as goal

pub push_child-requires : goal.push_child-requires
push_child-requires c =
    let s = c.args.view.now in
    let p = placement_value c.args.looked.now in
    let told = c.object-trees.ensures in
    let root = c.root.ensures ∙ ap (λ (w : WideValue). w.root) told.wide in
    let sound = c.known.ensures.bottoms.each p.instance.id p.bottom (is_placement s c.args.i p c.requires.placed).stands in
    subst (λ (t : TreeValue). HasBox t c.object-trees.result.wide.now c.root.result) (sym told.tree)
    (subst (λ (w : WideValue). HasBox p.bottom.tree w c.root.result) (sym told.wide)
    (subst (λ (r : WideRef). HasBox p.bottom.tree p.bottom.wide r) (sym root) (root-box p.bottom.tree p.bottom.wide p.bottom.wide.root sound.wide.collapsed.root)))

pub returns : goal.returns
returns c =
    let s = c.args.view.now in
    let p = placement_value c.args.looked.now in
    let t = c.object-trees.result in
    let old = c.args.turns.now in
    let new = c.push_child.new.turns in
    let told = c.object-trees.ensures in
    let root = c.root.ensures ∙ ap (λ (w : WideValue). w.root) told.wide in
    on_ok_weaker c.push_child.result
    (λ added. subst (λ (o : Option Placement). AddsWide c.args.limit s (root_by c.args.i o) old new) (sym c.requires.placed)
    (subst (λ (r : WideRef). AddsWide c.args.limit s (child (Object c.args.i) r) old new) root
    (through-object s t c.args.limit old new (λ level. child level c.root.result) c.args.i p told.tree told.wide (told.ray ∙ c.requires.ray) told.level
    (object-entries s c.args.i p c.requires.placed c.root.result) added))) c.push_child.ensures
