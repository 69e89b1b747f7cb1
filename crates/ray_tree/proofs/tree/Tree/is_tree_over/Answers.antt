use Rattle.std.proofs.Common.{◌∙◌, sym, subst}
use Rattle.std.specs.Prelude.{IsTrue, ◌↔◌}
use Rattle.ray_tree.specs.Trees.{TreeOver, IsShape, tree_value}
use Rattle.ray_tree.proofs.tree.Tree.is_tree_over.Goals as goal

pub is_over-requires : goal.is_over-requires
is_over-requires c =
    let same = (λ i. tree_value (c.deref.ensures.value i) (c.deref-2.ensures.value i) (c.deref-3.ensures.value i)) ∙ c.self.view_is in
    subst IsShape (sym same) c.shape.ensures

pub returns : goal.returns
returns c =
    let same = (λ i. tree_value (c.deref.ensures.value i) (c.deref-2.ensures.value i) (c.deref-3.ensures.value i)) ∙ c.self.view_is in
    subst (λ t. IsTrue c.is_over.result ↔ TreeOver t c.args.items.now) same c.is_over.ensures
