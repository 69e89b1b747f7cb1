use Rattle.std.proofs.Common.{ap, ◌∙◌}
use Rattle.std.specs.Map.{values_of}
use Rattle.ray_ranges.specs.Meeting.{meets, meets_any}
use Rattle.ray_ranges.specs.Places.{overlaps_any}
use Rattle.ray_ranges.specs.Addresses.{addresses_of}
use Rattle.ray_ranges.proofs.Lines.{meets_any-addresses}
use Rattle.ray_ranges.proofs.placed.Placed.overlaps.Goals as goal

pub returns : goal.returns
returns c =
    c.meets.ensures
    ∙ (ap (meets_any c.self.inside.taken) c.addresses.ensures.value
    ∙ (c.self.invariant.taken (meets (addresses_of c.args.place))
    ∙ (meets_any-addresses c.args.place (values_of c.self.inside.places.entries) c.addresses.ensures.fits c.self.invariant.separate
    ∙ ap (λ placed. overlaps_any placed c.args.place) c.self.view_is)))
