use Rattle.std.proofs.Common.{rules, ◌∙◌, sym}
use Rattle.ray_geom.specs.Fraction.{IsSameValue}
use Rattle.ray_geom.specs.Frac.{numerator, denominator}
use Rattle.ray_geom.proofs.Lowest.{lowest_of-only}
use Rattle.ray_geom.proofs.unreduced.Unreduced.reduced.Goals as goal

pub returns : goal.returns
returns c =
    let u = c.self.inside in
    let f = c.unwrap.result in
    let value : IsSameValue (numerator f) (denominator f) u.num u.den = search rules in
    sym (lowest_of-only f u.num u.den c.self.invariant value) ∙ c.self.view_is
