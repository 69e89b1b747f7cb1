use Rattle.std.proofs.Common.{Some, subst}
use Rattle.ray_bottom.specs.Slots.{IsSound}
use Rattle.ray_bottom.proofs.Standing.{sound-changed}
use Rattle.ray_bottom.proofs.bottoms.Bottoms.put.Goals as goal

pub invariant_of-self : goal.invariant_of-self
invariant_of-self c =
    sound-changed c.args.id (Some (Some c.args.bottom)) c.self.inside.slots.entries c.fill_slot.new.slots.entries c.self.invariant c.fill_slot.ensures
    (λ b e. subst IsSound (cc) c.sound.ensures)
