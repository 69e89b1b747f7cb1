use Rattle.std.proofs.Common.{ℕ, ◌≡◌, Option, Some, refl, subst, sym}
use Rattle.std.proofs.lemmas.Result.{on_ok_weaker}
use Rattle.ray_nearest.specs.declared.node.WalkNode.{WalkNode}
use Rattle.ray_nearest.specs.declared.node.WalkNode.TheVariants.{Inner, TopInner, TopLeaf}
use Rattle.ray_nearest.specs.Adding.{IsOpened}
use Rattle.ray_walk.specs.declared.held.Held.{Held}
use Rattle.ray_walk.specs.Scenes.{IsHolding, placement_value}
use Rattle.ray_walk.specs.Traced.{placement_at}
use Rattle.ray_walk.specs.WideScene.{wide_scene}
use Rattle.ray_walk.proofs.Pushing.{opened-inner, opened-leaf}
use Rattle.ray_walk.proofs.opening.open.Goals as goal

pub returns-in-TopInner-clause-opened : goal.returns-in-TopInner-clause-opened
returns-in-TopInner-clause-opened g c =
    let s = c.args.view.now in
    let old = c.args.turns.now in
    let new = c.open_world.new.turns in
    on_ok_weaker c.open_world.result
    (λ added. subst (λ (n : WalkNode). IsOpened c.args.limit (wide_scene s) n old new) (sym c.in-TopInner.is)
    (opened-inner s c.args.limit old new (TopInner c.in-TopInner.w) refl added)) c.open_world.ensures.opened

pub returns-in-TopLeaf-clause-opened : goal.returns-in-TopLeaf-clause-opened
returns-in-TopLeaf-clause-opened g c =
    let s = c.args.view.now in
    let old = c.args.turns.now in
    let new = c.open_instances.new.turns in
    on_ok_weaker c.open_instances.result
    (λ added. subst (λ (n : WalkNode). IsOpened c.args.limit (wide_scene s) n old new) (sym c.in-TopLeaf.is)
    (opened-inner s c.args.limit old new (TopLeaf c.in-TopLeaf.n) refl added)) c.open_instances.ensures.opened

pub returns-in-Some-clause-opened : goal.returns-in-Some-clause-opened
returns-in-Some-clause-opened g c =
    let s = c.args.view.now in
    let old = c.args.turns.now in
    let new = c.open_object.new.turns in
    on_ok_weaker c.open_object.result
    (λ added. subst (λ (n : WalkNode). IsOpened c.args.limit (wide_scene s) n old new) (sym c.in-Inner.is)
    (opened-inner s c.args.limit old new (Inner c.in-Inner.instance c.in-Inner.node) refl added)) c.open_object.ensures.opened

pub returns-in-Some-held-clause-opened : goal.returns-in-Some-held-clause-opened
returns-in-Some-held-clause-opened g c =
    let s = c.args.view.now in
    let i = c.in-Leaf.instance in
    let h = c.in-Some-held.h in
    let old = c.args.turns.now in
    let new = c.open_leaf.new.turns in
    let holding = subst (λ (o : Option Held). IsHolding s i o) c.in-Some-held.is c.hold-in-Leaf.ensures in
    let placed = subst (λ (n : ℕ). placement_at s n ≡ Some (placement_value h.looked)) holding.0 holding.1.placed in
    on_ok_weaker c.open_leaf.result
    (λ added. subst (λ (n : WalkNode). IsOpened c.args.limit (wide_scene s) n old new) (sym c.in-Leaf.is)
    (opened-leaf s c.args.limit old new i c.in-Leaf.node (placement_value h.looked) placed added)) c.open_leaf.ensures.found
