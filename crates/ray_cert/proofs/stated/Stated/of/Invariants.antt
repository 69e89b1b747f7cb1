use Rattle.std.proofs.Common.{◌≤◌}
use Rattle.ray_cert.proofs.Growing.{AreStatedBelow}
use Rattle.ray_cert.proofs.stated.Stated.of.Given as goal

-- the structures of the instances so far
abbrev pub invariant-loop-number : goal.invariant-loop-number
invariant-loop-number g l = record {
  stated : AreStatedBelow l.top.contents l.bottoms l.trees l.number;
  rising : l.initial.steps ≤ l.steps;
}
