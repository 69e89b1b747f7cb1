use Rattle.ray_slabs.proofs.Lanes.{greater-is}
use Rattle.ray_slabs.proofs.rows.greater_row.Goals as goal

pub returns : goal.returns
returns c = greater-is c.args.a c.args.b
