use Rattle.std.proofs.Common.{length}
use Rattle.ray_stated.proofs.arrange.+arrange.Given as goal

abbrev pub decreases-arrange : goal.decreases-arrange
decreases-arrange l = length l.entries.now
