use Rattle.std.proofs.Common.{◌≡◌, Option, refl, subst, sym, rules}
use Rattle.std.proofs.lemmas.Result.{on_ok_weaker}
use Rattle.ray_wide.specs.declared.node.WideRef.{WideRef}
use Rattle.ray_wide.specs.declared.node.WideRef.TheVariants as wides
use Rattle.ray_nearest.specs.declared.node.WalkNode.TheVariants.{Inner}
use Rattle.ray_nearest.specs.Adding.{AddsNodes}
use Rattle.ray_walk.specs.declared.level.Level.TheVariants.{Object}
use Rattle.ray_walk.specs.Scenes.{placement_value}
use Rattle.ray_candidates.specs.Placements.{Placement}
use Rattle.ray_walk.specs.WideScene.{child, root_by, wide_roots, wide_scene}
use Rattle.ray_walk.proofs.Pushing.{below-itself, passed-alone}
use Rattle.ray_walk.proofs.opening.pass_root_of.Goals as goal

pub returns-in-Inner-clause-passed : goal.returns-in-Inner-clause-passed
returns-in-Inner-clause-passed c =
    let s = c.args.view.now in
    let p = placement_value c.args.looked.now in
    let i = c.args.i in
    let limit = c.args.limit in
    let old = c.args.turns.now in
    let new = c.open_object.new.turns in
    let root : p.bottom.wide.root ≡ wides.Inner c.in-Inner.w = search rules in
    on_ok_weaker c.open_object.result
    (λ added. subst (λ (o : Option Placement). AddsNodes limit (wide_scene s) (root_by i o) old new) (sym c.requires.looked.placed)
    (subst (λ (r : WideRef). AddsNodes limit (wide_scene s) (child (Object i) r) old new) (sym root)
    (passed-alone s limit old new (Inner i c.in-Inner.w) refl added))) c.open_object.ensures.opened

pub returns-in_default : goal.returns-in_default
returns-in_default c =
    let s = c.args.view.now in
    record {
      passed = on_ok_weaker c.push_root_of.result
          (λ added. below-itself s c.args.limit c.args.turns.now c.push_root_of.new.turns (wide_roots s c.args.i) added) c.push_root_of.ensures;
      looked = c.requires.looked;
    }
