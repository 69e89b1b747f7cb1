use Rattle.std.proofs.Common.{◌∙◌, sym}
use Rattle.std.specs.List.{position}
use Rattle.ray_ranges.proofs.Shared.{meets_any_same}
use Rattle.ray_ranges.proofs.Sweeps.{first_meeting_any-free}
use Rattle.ray_ranges.proofs.first.first_meeting_any.Goals as goal

pub returns : goal.returns
returns c =
    c.first_met.ensures
    ∙ (λ i. position (λ range. meets_any_same c.in_ok-set.set c.args.others.now c.in_ok-set.ensures range i) c.args.ranges.now)

pub returns-then-branch : goal.returns-then-branch
returns-then-branch c =
    sym (first_meeting_any-free c.args.ranges.now c.args.others.now (c.in_ok-are_free.ensures c.if-branch.true))
