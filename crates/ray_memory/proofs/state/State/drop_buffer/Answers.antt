use Rattle.std.proofs.Common.{◌≡◌, refl, subst}
use Rattle.ray_action.specs.Memory.{Location}
use Rattle.ray_memory.specs.State.{StateValue, memory_of}
use Rattle.ray_memory.specs.contracts.state.State.{the_view}
use Rattle.ray_memory.proofs.Changing.{memory-dropped_buffer}
use Rattle.ray_action.specs.Action.{DestroyBuffer}
use Rattle.ray_action.specs.Outcomes.{Gives, Nothing}
use Rattle.ray_action.specs.Storing.{put}
use Rattle.ray_memory.proofs.state.State.drop_buffer.Goals as goal

pub returns : goal.returns
returns c =
    let new : StateValue = record { buffers = c.remove_buffer.new.buffers.entries; structures = c.self.inside.structures.entries; bottoms = c.self.inside.bottoms } in
    subst (λ (s : StateValue). (l : Location) → memory_of new l ≡ put (DestroyBuffer c.args.id) (Gives Nothing) (memory_of s) l) c.self.view_is
    (memory-dropped_buffer (the_view c.self.inside) new c.args.id c.remove_buffer.ensures refl refl)
