use Rattle.std.proofs.Common.{◌≡◌, ap, sym, ◌∙◌, subst, ◌∷◌}
use Rattle.std.specs.Map.{values_of}
use Rattle.ray_ranges.specs.Apart.{HaveTheSame}
use Rattle.ray_ranges.specs.Meeting.{meets, meets_any}
use Rattle.ray_ranges.specs.Places.{place_at, overlaps_any, without_place}
use Rattle.ray_ranges.specs.Addresses.{AreTaken, addresses_of}
use Rattle.ray_ranges.proofs.Lines.{meets_any-addresses}
use Rattle.ray_ranges.proofs.Placing.{taken-with_place, without_place-with_place}
use Rattle.ray_ranges.proofs.placed.Placed.insert.Goals as goal

pub add-requires-clause-free : goal.add-requires-clause-free
add-requires-clause-free c =
    ap (meets_any c.self.inside.taken) c.addresses.ensures.value
    ∙ (c.self.invariant.taken (meets (addresses_of c.args.place))
    ∙ (meets_any-addresses c.args.place (values_of c.self.inside.places.entries) c.addresses.ensures.fits c.self.invariant.separate
    ∙ (ap (λ placed. overlaps_any placed c.args.place) c.self.view_is ∙ c.requires.free)))

pub invariant_of-self-in-Ok : goal.invariant_of-self-in-Ok
invariant_of-self-in-Ok c =
    subst (λ es. AreTaken (values_of es) c.add.new.self) (sym c.in_ok-insert.ensures.entries)
    (taken-with_place c.args.id c.args.place c.self.inside.places.entries c.self.inside.taken c.add.new.self
    (ap (place_at c.args.id) c.self.view_is ∙ c.requires.fresh)
    (record { some = c.requires.some; fits = c.addresses.ensures.fits })
    (ap (λ placed. overlaps_any placed c.args.place) c.self.view_is ∙ c.requires.free)
    c.self.invariant
    (subst (λ r. HaveTheSame c.add.new.self (r ∷ c.self.inside.taken)) c.addresses.ensures.value c.in-Ok.ensures.ranges))

-- the entries are again as they were
back : (c : goal.After-remove) → c.remove.new.self.entries ≡ c.self.inside.places.entries
back c =
    c.remove.ensures.entries
    ∙ (ap (without_place c.args.id) c.in_ok-insert.ensures.entries
    ∙ without_place-with_place c.args.id c.args.place c.self.inside.places.entries
    (ap (place_at c.args.id) c.self.view_is ∙ c.requires.fresh))

pub invariant_of-self-in-Err : goal.invariant_of-self-in-Err
invariant_of-self-in-Err c =
    subst (λ es. AreTaken (values_of es) c.add.new.self) (sym (back c))
    (subst (AreTaken (values_of c.self.inside.places.entries)) (sym c.in-Err.ensures.err) c.self.invariant)

pub returns-in-Err-clause-err : goal.returns-in-Err-clause-err
returns-in-Err-clause-err c = back c ∙ c.self.view_is
