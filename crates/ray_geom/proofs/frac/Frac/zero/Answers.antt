use Rattle.std.proofs.Common.{lit<, lit≤}
use Rattle.std.proofs.Math.Nat.{eq-one_of_dvd-one}
use Rattle.ray_geom.proofs.frac.Frac.zero.Goals as goal

pub invariant_of-result : goal.invariant_of-result
invariant_of-result c = record {
  limits = record { den_positive = lit< tt; den_limit = lit≤ tt; num_limit = lit≤ tt };
  lowest = record { only_one = λ d _ in_one. eq-one_of_dvd-one in_one };
}
