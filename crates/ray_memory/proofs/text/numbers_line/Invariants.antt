use Rattle.std.proofs.Common.{◌≡◌}
use Rattle.ray_memory.proofs.Texts.{first_numbers}
use Rattle.ray_memory.proofs.text.numbers_line.Given as goal

-- the text so far is that of the first numbers
abbrev pub invariant-loop-k : goal.invariant-loop-k
invariant-loop-k l = l.line.items ≡ first_numbers l.bytes l.k
