use Rattle.std.proofs.Common.{take}
use Rattle.ray_tree.specs.Entries.{HasEach}
use Rattle.ray_tree.proofs.order.entries_of.Given as goal

abbrev pub invariant-loop-i : goal.invariant-loop-i
invariant-loop-i l = HasEach (take l.i l.items) l.entries.items
