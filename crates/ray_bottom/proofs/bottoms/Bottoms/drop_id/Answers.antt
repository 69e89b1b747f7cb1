use Rattle.std.proofs.Common.{None}
use Rattle.ray_bottom.proofs.Standing.{sound-changed}
use Rattle.ray_bottom.proofs.bottoms.Bottoms.drop_id.Goals as goal

pub invariant_of-self : goal.invariant_of-self
invariant_of-self c =
    sound-changed c.args.id None c.self.inside.slots.entries c.drop_slot.new.slots.entries c.self.invariant c.drop_slot.ensures (λ b e. absurd cc)
