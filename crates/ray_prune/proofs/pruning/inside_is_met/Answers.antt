use Rattle.ray_prune.proofs.Entries.{IsReach-of, reach_of-met}
use Rattle.ray_prune.proofs.pruning.inside_is_met.Goals as goal

pub returns-clause-met : goal.returns-clause-met
returns-clause-met c = λ n d positive i. reach_of-met c.args._ray.now c.args._b.now n d positive i

pub returns-clause-entry : goal.returns-clause-entry
returns-clause-entry c = λ n d positive i. (IsReach-of c.args._ray.now c.args._b.now n d positive i).least n d positive i
