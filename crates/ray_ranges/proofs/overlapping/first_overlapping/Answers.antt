use Rattle.std.proofs.Common.{◌≡◌, ap, ◌∙◌, subst, IfOk}
use Rattle.ray_ranges.specs.First.{first_meeting_earlier}
use Rattle.ray_ranges.proofs.Overlaps.{overlapping_by_addresses}
use Rattle.ray_ranges.proofs.overlapping.first_overlapping.Goals as goal

pub returns : goal.returns
returns c =
    subst (λ first. IfOk c.first_meeting_earlier.result (λ k. k ≡ first))
    (ap first_meeting_earlier (c.as_slice.ensures.value ∙ c.in_ok-ranges.ensures.value)
    ∙ overlapping_by_addresses c.args.places.now c.in_ok-ranges.ensures.fit)
    c.first_meeting_earlier.ensures
