use Rattle.std.proofs.Common.{◌≡◌}
use Rattle.ray_memory.proofs.Texts.{first_hits}
use Rattle.ray_memory.proofs.text.hits_by.Given as goal

-- the lines so far are those of the first records
abbrev pub invariant-loop-k : goal.invariant-loop-k
invariant-loop-k l = l.text.items ≡ first_hits l.bytes l.k
