use Rattle.std.proofs.Common.{◌∙◌, ap}
use Rattle.ray_ranges.specs.Places.{overlaps, overlaps_any}
use Rattle.ray_rules.specs.Ranges.{place_of}
use Rattle.ray_status.specs.Parts.{overlaps_one}
use Rattle.ray_status.proofs.Placing.{any-places}
use Rattle.ray_status.proofs.structures.Structures.overlaps.Goals as goal

pub returns-in-Some : goal.returns-in-Some
returns-in-Some c =
    let place = place_of c.args.range in
    c.overlaps.ensures
    ∙ (ap (overlaps_any c.self.inside.places) c.in-Some.ensures.some
    ∙ (ap (λ ps. overlaps_any ps place) c.self.invariant
    ∙ (any-places (overlaps place) c.self.inside.named.entries
    ∙ ap (λ es. overlaps_one es c.args.range) c.self.view_is)))
