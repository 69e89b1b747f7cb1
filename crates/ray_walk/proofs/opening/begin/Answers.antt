use Rattle.std.proofs.Common.{◌≡◌, None, [], refl, subst, sym, rules}
use Rattle.std.proofs.lemmas.List.Sorted.{IsPermutation-refl}
use Rattle.std.proofs.lemmas.Result.{on_ok_weaker}
use Rattle.ray_wide.specs.declared.node.WideRef.{WideRef}
use Rattle.ray_wide.specs.declared.node.WideRef.TheVariants as wides
use Rattle.ray_nearest.specs.declared.node.WalkNode.TheVariants.{TopInner, TopLeaf}
use Rattle.ray_nearest.specs.Adding.{AddsNodes}
use Rattle.ray_walk.specs.declared.level.Level.TheVariants.{World}
use Rattle.ray_walk.specs.WideScene.{child, wide_scene}
use Rattle.ray_walk.proofs.Pushing.{begun, below-itself, passed-alone}
use Rattle.ray_walk.proofs.opening.begin.Goals as goal

pub returns-in-Empty-clause-begun : goal.returns-in-Empty-clause-begun
returns-in-Empty-clause-begun c =
    let s = c.args.view.now in
    let old = c.args.turns.now in
    let root : s.top.wide.root ≡ wides.Empty = search rules in
    begun s old old
    (subst (λ (r : WideRef). AddsNodes None (wide_scene s) (child World r) old old) (sym root) (below-itself s None old old [] (IsPermutation-refl old)))

pub returns-in-Leaf-clause-begun : goal.returns-in-Leaf-clause-begun
returns-in-Leaf-clause-begun c =
    let s = c.args.view.now in
    let old = c.args.turns.now in
    let new = c.open_instances.new.turns in
    let root : s.top.wide.root ≡ wides.Leaf c.in-Leaf.leaf = search rules in
    on_ok_weaker c.open_instances.result
    (λ added. begun s old new
    (subst (λ (r : WideRef). AddsNodes None (wide_scene s) (child World r) old new) (sym root)
    (passed-alone s None old new (TopLeaf c.in-Leaf.leaf.node) refl added))) c.open_instances.ensures.opened

pub returns-in-Inner-clause-begun : goal.returns-in-Inner-clause-begun
returns-in-Inner-clause-begun c =
    let s = c.args.view.now in
    let old = c.args.turns.now in
    let new = c.open_world.new.turns in
    let root : s.top.wide.root ≡ wides.Inner c.in-Inner.w = search rules in
    on_ok_weaker c.open_world.result
    (λ added. begun s old new
    (subst (λ (r : WideRef). AddsNodes None (wide_scene s) (child World r) old new) (sym root)
    (passed-alone s None old new (TopInner c.in-Inner.w) refl added))) c.open_world.ensures.opened
