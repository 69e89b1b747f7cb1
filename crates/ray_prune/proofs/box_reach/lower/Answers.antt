use Rattle.std.proofs.Common.{rules}
use Rattle.std.proofs.lemmas.Int.{to_z-of_z}
use Rattle.ray_prune.proofs.Slabs.{lowered}
use Rattle.ray_prune.proofs.box_reach.lower.Goals as goal

pub returns-else-size-eq0-clause-some : goal.returns-else-size-eq0-clause-some
returns-else-size-eq0-clause-some c =
    lowered c.args.exit c.earlier.result c.args.far c.unsigned_abs-num.result c.args.size
    (search (rules, to_z-of_z)) (search (rules, to_z-of_z)) c.earlier.ensures.value
