use Rattle.std.proofs.Common.{rules}
use Rattle.ray_geom.specs.Fraction.{IsFraction}
use Rattle.ray_geom.proofs.Fractions.{IsLowest-div, IsFraction-div, IsSameValue-div, same_through}
use Rattle.ray_geom.proofs.frac.Frac.new.Goals as goal

pub invariant_of-result : goal.invariant_of-result
invariant_of-result c =
    let within : IsFraction c.args.num c.args.den = search rules in
    record {
      limits = rw (c.quotient.ensures, c.quotient-then-num-le-LIMIT.ensures) (IsFraction-div _ _ _ within c.gcd-divisor.ensures);
      lowest = rw (c.quotient.ensures, c.quotient-then-num-le-LIMIT.ensures) (IsLowest-div _ _ _ within.den_positive c.gcd-divisor.ensures);
    }

pub returns-then-num-le-LIMIT-clause-value : goal.returns-then-num-le-LIMIT-clause-value
returns-then-num-le-LIMIT-clause-value c =
    rw (c.quotient.ensures, c.quotient-then-num-le-LIMIT.ensures) (IsSameValue-div _ _ _ c.gcd-divisor.ensures)

pub returns-then-num-le-LIMIT-clause-only : goal.returns-then-num-le-LIMIT-clause-only
returns-then-num-le-LIMIT-clause-only c =
    let within : IsFraction c.args.num c.args.den = search rules in
    λ g h. same_through _ g c.args.num c.args.den within.den_positive (returns-then-num-le-LIMIT-clause-value c) h
