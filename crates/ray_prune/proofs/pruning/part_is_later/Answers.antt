use Rattle.ray_prune.proofs.Inside.{IsInside-part}
use Rattle.ray_prune.proofs.pruning.part_is_later.Goals as goal

pub returns-clause-inside : goal.returns-clause-inside
returns-clause-inside c = λ part n d i. IsInside-part c.args._ray.now c.args._inner.now c.args._outer.now part n d i

pub returns-clause-entry : goal.returns-clause-entry
returns-clause-entry c =
    λ part r s is outer.
    outer.least r.entry.num r.entry.den r.entry.positive
    (IsInside-part c.args._ray.now c.args._inner.now c.args._outer.now part r.entry.num r.entry.den is.entry)

pub returns-clause-exit : goal.returns-clause-exit
returns-clause-exit c =
    λ part r s is outer.
    outer.greatest r.exit.num r.exit.den r.exit.positive
    (IsInside-part c.args._ray.now c.args._inner.now c.args._outer.now part r.exit.num r.exit.den is.exit)
