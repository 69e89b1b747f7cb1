use Rattle.std.proofs.Common.{◌≡◌, map, take}
use Rattle.ray_exec.specs.Ranks.{rank_in}
use Rattle.ray_exec.proofs.ranks.ranks_of.Given as goal

-- the ranks so far
abbrev pub invariant-loop-number : goal.invariant-loop-number
invariant-loop-number l = l.ranks.items ≡ map (rank_in l.numbers) (take l.number-index l.numbers)
