use Rattle.std.proofs.Common.{◌-◌, ◌≡◌, ◌≤◌, ◌<◌, ◌^◌, ◌*◌}
use Rattle.ray_marks.specs.Tree.{cells_of}
use Rattle.ray_marks.proofs.mark_tree.shape_over.Given as goal

abbrev pub invariant-loop-many : goal.invariant-loop-many
invariant-loop-many l = record {
  cells : l.many ≡ cells_of l.height;
  rising : l.height < l.many;
  small : l.many ≤ 2 * 2 ^ 32;
}

abbrev pub decreases-loop-many : goal.decreases-loop-many
decreases-loop-many l = l.cells - l.many
