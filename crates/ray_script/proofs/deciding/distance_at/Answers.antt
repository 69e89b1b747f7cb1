use Rattle.ray_script.proofs.Spelled.{distance_at-made}
use Rattle.ray_script.proofs.deciding.distance_at.Goals as goal

pub returns : goal.returns
returns c = distance_at-made c.args.num c.args.den c.new.result c.unwrap.result c.unwrap.ensures c.new.ensures.only c.requires
