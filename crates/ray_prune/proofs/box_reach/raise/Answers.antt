use Rattle.std.proofs.Common.{rules}
use Rattle.std.proofs.lemmas.Int.{to_z-of_z}
use Rattle.ray_prune.proofs.Slabs.{raised}
use Rattle.ray_prune.proofs.box_reach.raise.Goals as goal

pub returns-else-size-eq0-clause-some : goal.returns-else-size-eq0-clause-some
returns-else-size-eq0-clause-some c =
    raised c.args.entry c.later.result c.args.near c.unsigned_abs-num.result c.args.size
    (search (rules, to_z-of_z)) (search (rules, to_z-of_z)) c.later.ensures.value
