use Rattle.std.proofs.Common.{◌≡◌, ◌++◌}
use Rattle.ray_hazards.proofs.cells.Cells.of.Given as goal

-- the numbers so far, and those that are left
abbrev pub invariant-loop-start : goal.invariant-loop-start
invariant-loop-start l = l.starts.items ++ l.start-iterator ≡ l.set.keys
