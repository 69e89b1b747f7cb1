use Rattle.std.proofs.Common.{take}
use Rattle.ray_top.specs.Keeping.{IsIndex}
use Rattle.ray_top.proofs.used_index.noted.Given as goal

-- the entries so far
abbrev pub invariant-loop-u : goal.invariant-loop-u
invariant-loop-u l = IsIndex (take l.u-index l.used) l.bounds.entries
