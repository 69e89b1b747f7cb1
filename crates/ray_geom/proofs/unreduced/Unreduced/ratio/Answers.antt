use Rattle.std.proofs.Common.{◌≡◌, subst}
use Rattle.std.specs.declared.cmp.Ordering.TheVariants.{Equal}
use Rattle.ray_geom.specs.declared.frac.Frac.{Frac}
use Rattle.ray_geom.specs.Fraction.{fraction_cmp}
use Rattle.ray_geom.specs.Reduced.{lowest_of}
use Rattle.ray_geom.proofs.Lowest.{lowest_of-value, same_ratio}
use Rattle.ray_geom.proofs.unreduced.Unreduced.ratio.Goals as goal

pub returns : goal.returns
returns c =
    let u = c.self.inside in
    subst (λ (f : Frac). fraction_cmp u.num u.den f.num f.den ≡ Equal) c.self.view_is
    (same_ratio u.num u.den (lowest_of u.num u.den) (lowest_of-value u.num u.den c.self.invariant))
