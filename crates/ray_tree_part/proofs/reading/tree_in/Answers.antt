use Rattle.ray_tree_part.proofs.Found.{missing}
use Rattle.ray_tree_part.proofs.reading.tree_in.Goals as goal

pub returns-clause-tree : goal.returns-clause-tree
returns-clause-tree c = missing c.args.items.now c.args.part.now c.in-Err.fault c.in-Err.ensures.none
