use Rattle.std.proofs.Common.{◌≡◌, ◌++◌, length}
use Rattle.ray_tree.specs.Shapes.{shape_in, tips}
use Rattle.ray_tree.specs.Waits.{tips_below, weight_below}
use Rattle.ray_tree.proofs.leaves.leaves_from_root.Given as goal

abbrev pub invariant-loop-wait : goal.invariant-loop-wait
invariant-loop-wait l = l.leaves.items ++ tips_below l.fn.nodes l.waits.items ≡ tips (shape_in (length l.fn.nodes) l.fn.nodes 0)

abbrev pub decreases-loop-wait : goal.decreases-loop-wait
decreases-loop-wait l = weight_below l.fn.nodes l.waits.items
