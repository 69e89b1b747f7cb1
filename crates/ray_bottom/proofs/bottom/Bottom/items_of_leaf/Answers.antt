use Rattle.std.proofs.Common.{map, ap, sym, subst, ◌∙◌}
use Rattle.std.specs.Prelude.{All}
use Rattle.ray_tree.specs.Shapes.{node_at}
use Rattle.ray_bottom.specs.Trees.{places_in_order}
use Rattle.ray_leaves.specs.LeafItems.{IsItemOf, place_of_item}
use Rattle.ray_bottom.proofs.LeafItems.{items_by-places, items_by-held}
use Rattle.ray_bottom.proofs.bottom.Bottom.items_of_leaf.Goals as goal

pub returns-clause-places : goal.returns-clause-places
returns-clause-places g c =
    let b = c.args.self.now in
    ap (map place_of_item) c.items_between-part.ensures ∙ items_by-places b.geometries (places_in_order b) (node_at b.tree.nodes c.args.leaf.node)

pub returns-clause-held : goal.returns-clause-held
returns-clause-held g c =
    let b = c.args.self.now in
    subst (All (IsItemOf b.geometries)) (sym c.items_between-part.ensures)
    (items_by-held b.geometries (places_in_order b) (node_at b.tree.nodes c.args.leaf.node))
