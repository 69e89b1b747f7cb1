use Rattle.std.proofs.Common.{subst, sym}
use Rattle.std.proofs.lemmas.Result.{on_ok_weaker}
use Rattle.ray_wide.specs.declared.node.WideRef.{WideRef}
use Rattle.ray_walk.specs.Aims.{AddsThrough}
use Rattle.ray_walk.specs.WideScene.{child}
use Rattle.ray_walk.proofs.Pushing.{pushed-inner, pushed-leaf}
use Rattle.ray_walk.proofs.children.push_child.Goals as goal

pub returns-in-Leaf : goal.returns-in-Leaf
returns-in-Leaf c =
    let t = c.args.trees.now in
    let old = c.args.turns.now in
    let new = c.push_box.new.turns in
    on_ok_weaker c.push_box.result
    (λ one. subst (λ (b : WideRef). AddsThrough c.args.limit t (child t.level b) old new) (sym c.in-Leaf.is)
    (pushed-leaf t c.args.limit old new c.in-Leaf.leaf.node c.leaf_at-node.result c.leaf_at-node.ensures one)) c.push_box.ensures

pub returns-in-Inner : goal.returns-in-Inner
returns-in-Inner c =
    let t = c.args.trees.now in
    let old = c.args.turns.now in
    let new = c.push_box-in-Inner.new.turns in
    on_ok_weaker c.push_box-in-Inner.result
    (λ one. subst (λ (b : WideRef). AddsThrough c.args.limit t (child t.level b) old new) (sym c.in-Inner.is)
    (pushed-inner t c.args.limit old new c.in-Inner.w c.subtree-top.result c.inner_at.result c.inner_at.ensures c.subtree-top.ensures one))
    c.push_box-in-Inner.ensures
