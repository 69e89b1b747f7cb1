use Rattle.ray_bottom.proofs.Standing.{sound-roomy}
use Rattle.ray_bottom.proofs.bottoms.Bottoms.make_room.Goals as goal

pub invariant_of-self : goal.invariant_of-self
invariant_of-self c =
    sound-roomy c.args.id c.self.inside.slots.entries c.make_slot.new.slots.entries c.make_slot.result c.self.invariant c.make_slot.ensures.ok c.make_slot.ensures.err
