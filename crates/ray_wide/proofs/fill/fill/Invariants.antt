use Rattle.std.proofs.Common.{◌≡◌, ◌++◌, map, take, drop}
use Rattle.ray_wide.specs.Lanes.{filled}
use Rattle.ray_wide.proofs.fill.fill.Given as goal

abbrev pub invariant-loop-w : goal.invariant-loop-w
invariant-loop-w l = l.nodes ≡ map (filled l.tree l.tops) (take l.w l.fn.nodes) ++ drop l.w l.fn.nodes
