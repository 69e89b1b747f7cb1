use Rattle.std.proofs.Common.{length}
use Rattle.ray_morton.proofs.plant.+plant.Given as goal

abbrev pub decreases-plant : goal.decreases-plant
decreases-plant l = length l.keys.now
