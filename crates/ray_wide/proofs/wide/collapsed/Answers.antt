use Rattle.std.proofs.Common.{subst, sym}
use Rattle.ray_wide.specs.Cuts.{IsGrowing}
use Rattle.ray_wide.specs.Wides.{IsCollapsed, wide_value}
use Rattle.ray_wide.proofs.Rooting.{first_growing, all_made}
use Rattle.ray_wide.proofs.wide.collapsed.Goals as goal

pub grow-requires : goal.grow-requires
grow-requires c =
    subst (λ ws. IsGrowing c.args.tree.now.nodes ws c.in_ok-tops.tops.items) (sym c.in_ok-nodes.ensures.items)
    (first_growing c.args.tree.now c.shape.ensures c.root_of-root.result c.in_ok-tops.tops.items c.root_of-root.ensures c.in_ok-tops.ensures)

pub returns : goal.returns
returns c =
    subst (λ tops. IsCollapsed (wide_value c.root_of-root.result c.shrink_to_fit.new.self.items tops) c.args.tree.now.nodes) (sym c.shrink_to_fit-2.ensures.items)
    (subst (λ nodes. IsCollapsed (wide_value c.root_of-root.result nodes c.grow.new.tops.items) c.args.tree.now.nodes) (sym c.shrink_to_fit.ensures.items)
    (all_made c.args.tree.now.nodes c.root_of-root.result c.grow.new.nodes.items c.in_ok-tops.tops.items c.grow.new.tops.items
    c.root_of-root.ensures c.in_ok-tops.ensures c.in_ok-grow.ensures.growing c.in_ok-grow.ensures.made c.in_ok-grow.ensures.more c.in_ok-grow.ensures.none))
