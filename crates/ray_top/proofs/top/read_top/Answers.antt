use Rattle.std.proofs.Common.{◌∙◌, sym, subst, map}
use Rattle.ray_hierarchy.specs.Hierarchies.{IsBuilt}
use Rattle.ray_tree.specs.Trees.{TreeOver}
use Rattle.ray_top.specs.Trees.{TopWithTree, item_of, items_of, without_tree}
use Rattle.ray_top.proofs.top.read_top.Goals as goal

pub counted-requires-clause-over : goal.counted-requires-clause-over
counted-requires-clause-over g c =
    let used = c.in_ok-index.ensures ∙ sym c.in_ok-used.ensures in
    let items = c.deref.ensures.value ∙ (c.in_ok-items.ensures ∙ (λ i. map (item_of (used i)) (c.as_slice.ensures i))) in
    subst (TreeOver c.in_ok-hierarchy.hierarchy.tree) items c.in_ok-hierarchy.ensures.over

pub returns-clause-tree : goal.returns-clause-tree
returns-clause-tree g c =
    let used = c.in_ok-index.ensures ∙ sym c.in_ok-used.ensures in
    let items = c.deref.ensures.value ∙ (c.in_ok-items.ensures ∙ (λ i. map (item_of (used i)) (c.as_slice.ensures i))) in
    subst (λ (t : TopWithTree). IsBuilt t.contents.flags (items_of (without_tree t)) t.tree) (sym c.counted.ensures)
    (subst (λ xs. IsBuilt c.args.flags xs c.in_ok-hierarchy.hierarchy.tree) items c.in_ok-hierarchy.ensures)
