use Rattle.std.proofs.Common.{◌≡◌, ◌*◌, ◌≤◌, length}
use Rattle.ray_bench.specs.Tested.{hits_in_turns}
use Rattle.ray_bench.proofs.testing.count_of_rays.Given as goal

abbrev pub invariant-loop-turn : goal.invariant-loop-turn
invariant-loop-turn l = record {
  exact : l.hits ≡ hits_in_turns l.rays l.tris l.turn;
  below : l.hits ≤ l.turn * length l.tris;
}
