use Rattle.std.proofs.Common.{◌≡◌, ◌≤◌, length}
use Rattle.std.specs.List.Sorted.{IsPermutation}
use Rattle.ray_tree.proofs.arrange.move_front.Given as goal

abbrev pub invariant-loop-i : goal.invariant-loop-i
invariant-loop-i l = IsPermutation l.fn.entries l.entries × (length l.entries ≡ length l.fn.entries) × (l.many ≤ l.i)
