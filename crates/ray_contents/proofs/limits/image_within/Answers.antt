use Rattle.ray_geom.specs.Transform.{image_of}
use Rattle.ray_contents.proofs.Within.{point_within-SomeIff}
use Rattle.ray_contents.proofs.limits.image_within.Goals as goal

pub returns-clause-value : goal.returns-clause-value
returns-clause-value c = point_within-SomeIff (image_of c.args.m.now c.args.v) c.apply.result c.apply.ensures
