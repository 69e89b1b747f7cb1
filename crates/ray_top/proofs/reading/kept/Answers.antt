use Rattle.ray_top.proofs.Corners.{bounds_kept-test}
use Rattle.ray_top.proofs.reading.kept.Goals as goal

pub returns : goal.returns
returns c = bounds_kept-test c.args.m.now c.args.bounds c.keeps_bounds.result c.keeps_bounds.ensures
