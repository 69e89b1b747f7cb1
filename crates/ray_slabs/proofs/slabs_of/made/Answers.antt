use Rattle.std.proofs.Common.{Some}
use Rattle.ray_window.specs.Windows.{window_of}
use Rattle.ray_slabs.proofs.slabs_of.made.Goals as goal

pub returns-then-slabs : goal.returns-then-slabs
returns-then-slabs c = c.bare-slabs.ensures c.if-slabs.true (window_of c.args.ray.now (Some c.args.until))
