use Rattle.ray_geom.proofs.Lowest.{lowest_of-value}
use Rattle.ray_geom.proofs.unreduced.Unreduced.new.Goals as goal

pub returns : goal.returns
returns c = lowest_of-value c.args.num c.args.den c.requires
