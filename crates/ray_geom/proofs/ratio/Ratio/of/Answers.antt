use Rattle.std.proofs.Common.{ap}
use Rattle.ray_geom.specs.Frac.{numerator, denominator}
use Rattle.ray_geom.proofs.Ratios.{ratio_at-is}
use Rattle.ray_geom.proofs.ratio.Ratio.of.Goals as goal

pub returns-clause-at : goal.returns-clause-at
returns-clause-at c =
    ratio_at-is _ (numerator c.args.f) (denominator c.args.f) (ap (λ p. p.0) c.lowest-num.ensures.value)
    (ap (λ p. p.1) c.lowest-num.ensures.value)
