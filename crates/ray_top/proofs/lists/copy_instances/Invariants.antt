use Rattle.std.proofs.Common.{◌≡◌, take}
use Rattle.ray_top.proofs.lists.copy_instances.Given as goal

-- the instances so far
abbrev pub invariant-loop-i : goal.invariant-loop-i
invariant-loop-i l = l.kept.items ≡ take l.i-index l.instances
