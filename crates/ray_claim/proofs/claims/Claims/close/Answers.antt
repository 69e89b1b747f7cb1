use Rattle.std.proofs.Common.{rules, ◌∙◌, ap}
use Rattle.ray_claim.proofs.Steps.{all_at, closed_at, counted_at}
use Rattle.ray_claim.proofs.claims.Claims.close.Goals as goal

pub returns-clause-counts : goal.returns-clause-counts
returns-clause-counts c =
    counted_at c.args.self.n _ _ _ _ c.args.seat _ _ c.word-word.result c.min.result c.close_with-closed.ensures.values.2 c.word-word.ensures (c.self.invariant.2 ∙ ap (λ v. v.n) c.self.view_is) c.seat.view_is (search rules) (search rules)

pub returns-clause-counted : goal.returns-clause-counted
returns-clause-counted c = (closed_at c.args.self.n c.args.seat c.min.result (returns-clause-counts c)).counted

pub returns-clause-once : goal.returns-clause-once
returns-clause-once c = (closed_at c.args.self.n c.args.seat c.min.result (returns-clause-counts c)).once

pub returns-clause-limited : goal.returns-clause-limited
returns-clause-limited c = (closed_at c.args.self.n c.args.seat c.min.result (returns-clause-counts c)).limited

pub returns-clause-ended : goal.returns-clause-ended
returns-clause-ended c = all_at c.args.self.n c.args.seat c.min.result (returns-clause-counts c)
