use Rattle.std.proofs.Common.{length, take}
use Rattle.ray_stated.proofs.Marked.{IsMarked}
use Rattle.ray_stated.proofs.apart.are_unmarked.Given as goal

abbrev pub invariant-loop-k : goal.invariant-loop-k
invariant-loop-k l = IsMarked (length l.fn.marks) (take l.k l.numbers) l.marks
