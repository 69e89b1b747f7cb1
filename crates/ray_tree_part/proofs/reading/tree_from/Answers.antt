use Rattle.ray_tree_part.proofs.Found.{found}
use Rattle.ray_tree_part.proofs.reading.tree_from.Goals as goal

pub returns-clause-tree : goal.returns-clause-tree
returns-clause-tree c =
    found c.args.items.now c.args._part.now c.args.nodes.now c.args.order.now c.tree_of.result c.requires.nodes c.requires.order c.carried_law.ensures.said c.tree_of.ensures
