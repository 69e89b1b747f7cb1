use Rattle.std.proofs.Common.{◌≤◌}
use Rattle.ray_bench.specs.Spots.{AreMet}
use Rattle.ray_bench.proofs.testing.count_of_spots.Given as goal

abbrev pub invariant-loop-k : goal.invariant-loop-k
invariant-loop-k l = record {
  exact : AreMet l.k l.met;
  below : l.met ≤ l.k;
}
