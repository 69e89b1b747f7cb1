use Rattle.std.proofs.Common.{ap, sym, ◌∙◌, subst}
use Rattle.std.specs.Map.{values_of}
use Rattle.ray_ranges.specs.Apart.{without}
use Rattle.ray_ranges.specs.Addresses.{AreTaken}
use Rattle.ray_ranges.proofs.Placing.{taken-without_place}
use Rattle.ray_ranges.proofs.placed.Placed.remove.Goals as goal

pub invariant_of-self-2 : goal.invariant_of-self-2
invariant_of-self-2 c =
    subst (λ es. AreTaken (values_of es) c.remove-2.new.self) (sym c.in_ok-place.ensures.entries)
    (taken-without_place c.args.id c.in_ok-place.place c.self.inside.places.entries c.self.inside.taken c.remove-2.new.self
    (sym c.in_ok-place.ensures.value) c.self.invariant
    (c.remove-2.ensures.left ∙ ap (λ r. without r.from c.self.inside.taken) c.addresses.ensures.value))
