use Rattle.std.proofs.Common.{◌≡◌, take}
use Rattle.ray_top.proofs.lists.copy_used.Given as goal

-- the entries so far
abbrev pub invariant-loop-u : goal.invariant-loop-u
invariant-loop-u l = l.kept.items ≡ take l.u-index l.used
