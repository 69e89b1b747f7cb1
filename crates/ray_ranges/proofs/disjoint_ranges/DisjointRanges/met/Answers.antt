use Rattle.std.proofs.Common.{◌≡◌, ap, sym, subst, ◌∙◌, List}
use Rattle.std.specs.Prelude.{Some, is_some}
use Rattle.std.specs.List.{find}
use Rattle.ray_ranges.specs.declared.range.Range.{Range}
use Rattle.ray_ranges.specs.Apart.{begins_at}
use Rattle.ray_ranges.specs.Meeting.{meets_any}
use Rattle.ray_ranges.proofs.Queries.{nothing_below, last_below}
use Rattle.ray_ranges.proofs.disjoint_ranges.DisjointRanges.met.Goals as goal

pub returns-in_err-from-clause-any : goal.returns-in_err-from-clause-any
returns-in_err-from-clause-any c =
    ap is_some c.from_residual.ensures
    ∙ (sym (nothing_below c.self.inside.ends c.args.range c.range.result (c.range.ensures.in_range tt) c.in_err-from.ensures.steps.0 c.self.invariant)
    ∙ ap (λ (rs : List Range). meets_any rs c.args.range) c.self.view_is)

pub returns-then-meets-clause-any : goal.returns-then-meets-clause-any
returns-then-meets-clause-any c =
    c.if-meets.ensures.value
    ∙ (sym (last_below c.self.inside.ends c.args.range c.range.result c.next_back.new.self (c.in_ok-from.from.now, c.in_ok-from.end.now) (c.range.ensures.in_range tt) c.in_ok-from.ensures.steps c.self.invariant).decides
    ∙ ap (λ (rs : List Range). meets_any rs c.args.range) c.self.view_is)

pub returns-then-meets-clause-met : goal.returns-then-meets-clause-met
returns-then-meets-clause-met c = sym c.if-meets.ensures.value

pub returns-then-meets-clause-found : goal.returns-then-meets-clause-found
returns-then-meets-clause-found c =
    subst (λ (rs : List Range). find (begins_at c.in_ok-from.from.now) rs ≡ Some (record { from = c.in_ok-from.from.now; end = c.in_ok-from.end.now })) c.self.view_is
    (last_below c.self.inside.ends c.args.range c.range.result c.next_back.new.self (c.in_ok-from.from.now, c.in_ok-from.end.now) (c.range.ensures.in_range tt) c.in_ok-from.ensures.steps c.self.invariant).found

pub returns-else-meets-clause-any : goal.returns-else-meets-clause-any
returns-else-meets-clause-any c =
    c.if-meets.ensures.value
    ∙ (sym (last_below c.self.inside.ends c.args.range c.range.result c.next_back.new.self (c.in_ok-from.from.now, c.in_ok-from.end.now) (c.range.ensures.in_range tt) c.in_ok-from.ensures.steps c.self.invariant).decides
    ∙ ap (λ (rs : List Range). meets_any rs c.args.range) c.self.view_is)
