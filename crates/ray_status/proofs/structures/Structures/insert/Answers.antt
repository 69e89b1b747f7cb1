use Rattle.std.proofs.Common.{◌≡◌, ◌∙◌, None, ap, sym}
use Rattle.std.specs.Option.{option_map}
use Rattle.ray_ranges.specs.Places.{overlaps, overlaps_any, place_at, with_place, without_place}
use Rattle.ray_ranges.proofs.Placing.{without_place-with_place}
use Rattle.ray_rules.specs.Ids.{look}
use Rattle.ray_rules.specs.Structures.{structure_range}
use Rattle.ray_status.specs.Parts.{overlaps_one, places_of, structure_place}
use Rattle.ray_status.proofs.Placing.{any-places, look-places, places-with}
use Rattle.ray_status.proofs.structures.Structures.insert.Goals as goal

pub insert-requires-clause-fresh : goal.insert-requires-clause-fresh
insert-requires-clause-fresh c =
    ap (place_at c.args.id) c.self.invariant
    ∙ (look-places c.args.id c.self.inside.named.entries
    ∙ ap (option_map structure_place) (ap (λ es. look es c.args.id) c.self.view_is ∙ c.requires.fresh))

pub insert-requires-clause-free : goal.insert-requires-clause-free
insert-requires-clause-free c =
    ap (overlaps_any c.self.inside.places) c.structure_place.ensures
    ∙ (ap (λ ps. overlaps_any ps (structure_place c.args.made)) c.self.invariant
    ∙ (any-places (overlaps (structure_place c.args.made)) c.self.inside.named.entries
    ∙ (ap (λ es. overlaps_one es (structure_range c.args.made)) c.self.view_is ∙ c.requires.apart)))

pub invariant_of-self-in-Ok : goal.invariant_of-self-in-Ok
invariant_of-self-in-Ok c =
    c.in_ok-insert.ensures.ok
    ∙ (ap (λ p. with_place c.args.id p c.self.inside.places) c.structure_place.ensures
    ∙ (ap (with_place c.args.id (structure_place c.args.made)) c.self.invariant
    ∙ (sym (places-with c.args.id c.args.made c.self.inside.named.entries) ∙ ap places_of (sym c.in-Ok.ensures.entries))))

pub invariant_of-self-in-Err : goal.invariant_of-self-in-Err
invariant_of-self-in-Err c =
    let fresh : place_at c.args.id c.self.inside.places ≡ None =
    ap (place_at c.args.id) c.self.invariant
    ∙ (look-places c.args.id c.self.inside.named.entries
    ∙ ap (option_map structure_place) (ap (λ es. look es c.args.id) c.self.view_is ∙ c.requires.fresh)) in
    c.remove.ensures.left
    ∙ (ap (without_place c.args.id) c.in_ok-insert.ensures.ok
    ∙ (without_place-with_place c.args.id c.structure_place.result c.self.inside.places fresh
    ∙ (c.self.invariant ∙ ap places_of (sym c.in-Err.ensures.err))))
