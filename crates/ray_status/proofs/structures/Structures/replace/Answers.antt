use Rattle.std.proofs.Common.{◌∙◌, ap, sym}
use Rattle.std.specs.Option.{option_map}
use Rattle.ray_rules.specs.Ids.{look}
use Rattle.ray_status.specs.Parts.{places_of, structure_place}
use Rattle.ray_status.proofs.Placing.{places-kept}
use Rattle.ray_status.proofs.structures.Structures.replace.Goals as goal

pub invariant_of-self-2 : goal.invariant_of-self-2
invariant_of-self-2 c =
    c.self.invariant
    ∙ (sym (places-kept c.args.id c.args.other c.self.inside.named.entries c.insert.ensures.was_ordered
    (ap (λ es. option_map structure_place (look es c.args.id)) c.self.view_is ∙ c.requires))
    ∙ ap places_of (sym c.in_ok-insert.ensures.entries))
