use Rattle.std.proofs.Common.{subst, ◌∙◌, IfSome}
use Rattle.ray_ranges.specs.Meeting.{HasNoMore}
use Rattle.ray_ranges.proofs.Changed.{with_taken}
use Rattle.ray_ranges.proofs.disjoint_ranges.DisjointRanges.take_met.Goals as goal

pub returns-clause-numbers : goal.returns-clause-numbers
returns-clause-numbers c =
    with_taken c.in_ok-met.met.from c.args.self.now c.remove.new.self c.in_ok-met.met c.in_ok-met.ensures.found
    (subst (λ o. IfSome o (λ r. HasNoMore r c.args.self.now c.remove.new.self))
    (c.remove.ensures.removed ∙ c.in_ok-met.ensures.found) c.remove.ensures.numbers)
