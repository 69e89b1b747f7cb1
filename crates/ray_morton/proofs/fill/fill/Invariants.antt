use Rattle.std.proofs.Common.{◌≤◌, length}
use Rattle.ray_tree.proofs.Filled.{AreLocalFrom}
use Rattle.ray_morton.specs.Tips.{AreTips}
use Rattle.ray_morton.proofs.fill.fill.Given as goal

abbrev pub invariant-loop-i : goal.invariant-loop-i
invariant-loop-i g l =
    AreLocalFrom l.items l.order l.boxes l.nodes l.i × AreTips l.items l.order l.boxes l.nodes l.i × (l.i ≤ length l.nodes)

abbrev pub decreases-loop-i : goal.decreases-loop-i
decreases-loop-i g l = l.i
