use Rattle.std.proofs.Common.{◌/◌, ◌+◌, refl, arith}
use Rattle.ray_tree_part.proofs.NodeCounts.{few_nodes, both_nodes, fits_below}
use Rattle.ray_tree_part.proofs.size.+nodes_below.Goals as goal

pub nodes_below-requires : goal.nodes_below-requires
nodes_below-requires t c =
    let fits = fits_below c.args.height c.args.count ((c.args.count + 1) / 2) c.if-count-le-MOST.false c.requires.low refl in
    (omega arith, (omega arith, (omega arith, omega arith)))

pub nodes_below-requires-2 : goal.nodes_below-requires-2
nodes_below-requires-2 t c =
    let fits = fits_below c.args.height c.args.count ((c.args.count + 1) / 2) c.if-count-le-MOST.false c.requires.low refl in
    (omega arith, (omega arith, (omega arith, omega arith)))

pub returns-then-count-le-MOST-clause-value : goal.returns-then-count-le-MOST-clause-value
returns-then-count-le-MOST-clause-value t c = few_nodes c.args.height c.args.count c.if-count-le-MOST.true

pub returns-clause-value : goal.returns-clause-value
returns-clause-value t c =
    both_nodes c.args.height c.args.count c.nodes_below.result c.nodes_below-2.result ((c.args.count + 1) / 2) c.if-count-le-MOST.false c.requires.low refl
    c.nodes_below.ensures.value c.nodes_below-2.ensures.value
