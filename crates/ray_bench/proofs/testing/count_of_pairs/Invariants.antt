use Rattle.std.proofs.Common.{◌≡◌, ◌*◌, count_by}
use Rattle.ray_bench.specs.Tested.{is_hit_pair}
use Rattle.ray_bench.proofs.testing.count_of_pairs.Given as goal

abbrev pub invariant-loop-turn : goal.invariant-loop-turn
invariant-loop-turn l = l.hits ≡ l._turn * count_by is_hit_pair l.pairs
