use Rattle.std.proofs.Common.{◌<◌, length}
use Rattle.ray_wide.proofs.cut.widest.Given as goal

abbrev pub invariant-loop-k : goal.invariant-loop-k
invariant-loop-k l = l.best < length l.cut
