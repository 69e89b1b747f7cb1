use Rattle.std.proofs.Common.{ap, ◌∙◌}
use Rattle.std.specs.Map.{values_of}
use Rattle.ray_ranges.specs.Meeting.{meets, meets_any}
use Rattle.ray_ranges.specs.Places.{holds_any}
use Rattle.ray_ranges.specs.Addresses.{all_addresses}
use Rattle.ray_ranges.proofs.Lines.{meets_any-space}
use Rattle.ray_ranges.proofs.placed.Placed.holds_any.Goals as goal

pub returns : goal.returns
returns c =
    c.meets.ensures
    ∙ (ap (meets_any c.self.inside.taken) c.whole.ensures
    ∙ (c.self.invariant.taken (meets (all_addresses c.args.space))
    ∙ (meets_any-space c.args.space (values_of c.self.inside.places.entries) c.self.invariant.separate
    ∙ ap (λ placed. holds_any placed c.args.space) c.self.view_is)))
