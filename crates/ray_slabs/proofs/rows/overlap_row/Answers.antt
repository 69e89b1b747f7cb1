use Rattle.ray_slabs.proofs.Lanes.{overlap-is}
use Rattle.ray_slabs.proofs.rows.overlap_row.Goals as goal

pub returns : goal.returns
returns c = overlap-is 8 c.args.lo c.args.hi c.args.from c.args.to c.args.other c.requires.lo c.requires.hi
