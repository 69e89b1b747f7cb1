use Rattle.ray_contents.proofs.Within.{point_within-SomeIff}
use Rattle.ray_contents.proofs.limits.point_within.Goals as goal

pub returns-clause-value : goal.returns-clause-value
returns-clause-value c = point_within-SomeIff c.args.v c.short.result c.short.ensures.limits
