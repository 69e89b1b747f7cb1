use Rattle.ray_slabs.proofs.Lanes.{lesser-is}
use Rattle.ray_slabs.proofs.rows.lesser_row.Goals as goal

pub returns : goal.returns
returns c = lesser-is c.args.a c.args.b
