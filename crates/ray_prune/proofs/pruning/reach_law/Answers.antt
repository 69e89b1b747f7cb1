use Rattle.ray_prune.proofs.Entries.{reach_of-some, reach_of-none}
use Rattle.ray_prune.proofs.pruning.reach_law.Goals as goal

pub returns-clause-some : goal.returns-clause-some
returns-clause-some c = reach_of-some c.args._ray.now c.args._b.now

pub returns-clause-none : goal.returns-clause-none
returns-clause-none c = reach_of-none c.args._ray.now c.args._b.now
