use Rattle.std.proofs.Common.{ℕ, ◌∙◌, ap}
use Rattle.ray_geom.specs.Reduced.{lowest_of}
use Rattle.ray_geom.proofs.Lowest.{lowest_of-frac}
use Rattle.ray_geom.proofs.unreduced.Unreduced.of.Goals as goal

pub returns : goal.returns
returns c = ap (λ (p : ℕ × ℕ). lowest_of p.0 p.1) c.lowest-num.ensures.value ∙ lowest_of-frac c.args.f
