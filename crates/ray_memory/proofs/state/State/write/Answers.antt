use Rattle.std.proofs.Common.{◌≡◌, refl, subst}
use Rattle.std.specs.Prelude.{if◌then◌else◌}
use Rattle.ray_action.specs.Memory.{Location}
use Rattle.ray_memory.specs.State.{StateValue, memory_of}
use Rattle.ray_memory.specs.contracts.state.State.{the_view}
use Rattle.ray_action.specs.Areas.{is_in_range}
use Rattle.ray_action.specs.Storing.{stored}
use Rattle.ray_memory.proofs.Changing.{memory-overwritten}
use Rattle.ray_memory.proofs.state.State.write.Goals as goal

pub returns : goal.returns
returns c =
    let new : StateValue = record { buffers = c.overwrite_in.new.buffers.entries; structures = c.self.inside.structures.entries; bottoms = c.self.inside.bottoms } in
    subst (λ (s : StateValue). (l : Location) → memory_of new l ≡ (if is_in_range c.args.to l then stored c.args.to.from c.args.bytes.now l (memory_of s l) else memory_of s l)) c.self.view_is
    (memory-overwritten (the_view c.self.inside) new c.args.to c.args.bytes.now c.overwrite_in.ensures refl refl)
