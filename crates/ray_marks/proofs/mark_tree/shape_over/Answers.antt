use Rattle.std.proofs.Common.{arith}
use Rattle.ray_marks.proofs.Trees.{size-cells}
use Rattle.ray_marks.proofs.mark_tree.shape_over.Goals as goal

pub returns-clause-nodes : goal.returns-clause-nodes
returns-clause-nodes c = let s = size-cells c.loop-many.height in let e = c.loop-many.invariant.cells in omega arith
