use Rattle.std.proofs.Common.{◌<◌, ◌∙◌, length, sym, subst}
use Rattle.std.proofs.lemmas.Grind.{get_or_default_zero}
use Rattle.ray_climb.specs.Refits.{refit_value}
use Rattle.ray_climb.specs.Ready.{IsUp}
use Rattle.ray_climb.proofs.OneParent.{below}
use Rattle.ray_climb.proofs.Boxed.{is_up}
use Rattle.ray_climb.proofs.refit.Refit.up.Goals as goal

pub node-requires : goal.node-requires
node-requires c =
    let r = refit_value c.self.inside.tree c.self.inside.items.items in
    let small : c.args.n < length r.tree.nodes = subst (λ x. c.args.n < length x.tree.nodes) (sym c.self.view_is) c.requires.0 in
    let here = subst (λ x. c.args.n < x) (sym c.self.invariant.parents.long) small in
    let is = c.index-parent.ensures ∙ get_or_default_zero c.self.inside.parents.items c.args.n c.index-parent.result.now here ∙ c.self.invariant.parents.each c.args.n small c.requires.1 in
    subst (λ x. x < length r.tree.nodes) (sym is) (below r.tree c.self.invariant.ready.shape c.args.n small c.requires.1).small

pub returns : goal.returns
returns c =
    let r = refit_value c.self.inside.tree c.self.inside.items.items in
    let small : c.args.n < length r.tree.nodes = subst (λ x. c.args.n < length x.tree.nodes) (sym c.self.view_is) c.requires.0 in
    let here = subst (λ x. c.args.n < x) (sym c.self.invariant.parents.long) small in
    let is = c.index-parent.ensures ∙ get_or_default_zero c.self.inside.parents.items c.args.n c.index-parent.result.now here ∙ c.self.invariant.parents.each c.args.n small c.requires.1 in
    subst (λ x. IsUp x c.args.n c.way.result) c.self.view_is
    (is_up r c.self.invariant.ready.shape c.args.n small c.requires.1 c.way.result c.index-parent.result.now c.node.result is c.node.ensures.value
    c.way.ensures.parent c.way.ensures.right c.way.ensures.sibling)
