use Rattle.ray_prune.proofs.Unions.{union_of-comm, union_of-assoc, union_of-idem}
use Rattle.ray_prune.proofs.box_laws.union_law.Goals as goal

pub returns-clause-commutes : goal.returns-clause-commutes
returns-clause-commutes c = union_of-comm c.args._a.now c.args._b.now

pub returns-clause-associates : goal.returns-clause-associates
returns-clause-associates c = union_of-assoc c.args._a.now c.args._b.now c.args._c.now

pub returns-clause-idempotent : goal.returns-clause-idempotent
returns-clause-idempotent c = union_of-idem c.args._a.now
