use Rattle.ray_prune.proofs.Spans.{IsSpan-reduced}
use Rattle.ray_prune.proofs.reach.Reach.reduced.Goals as goal

pub returns-clause-span : goal.returns-clause-span
returns-clause-span c =
    λ object box is.
    IsSpan-reduced object box c.args.self.now c.reduced.result c.reduced-2.result is c.reduced.ensures c.reduced-2.ensures
