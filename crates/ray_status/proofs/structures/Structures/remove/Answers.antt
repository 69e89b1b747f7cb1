use Rattle.std.proofs.Common.{◌∙◌, ap, sym}
use Rattle.ray_ranges.specs.Places.{without_place}
use Rattle.ray_status.specs.Parts.{places_of}
use Rattle.ray_status.proofs.Placing.{places-without}
use Rattle.ray_status.proofs.structures.Structures.remove.Goals as goal

pub invariant_of-self : goal.invariant_of-self
invariant_of-self c =
    c.remove-2.ensures.left
    ∙ (ap (without_place c.args.id) c.self.invariant
    ∙ (sym (places-without c.args.id c.self.inside.named.entries) ∙ ap places_of (sym c.remove.ensures.entries)))
