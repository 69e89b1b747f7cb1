use Rattle.std.proofs.Common.{◌-◌}
use Rattle.ray_stated.proofs.select.+select.Given as goal

abbrev pub decreases-select : goal.decreases-select
decreases-select l = l.reach.hi - l.reach.lo
