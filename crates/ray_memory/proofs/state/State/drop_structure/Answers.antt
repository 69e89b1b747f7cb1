use Rattle.std.proofs.Common.{◌≡◌, refl, subst}
use Rattle.ray_action.specs.Memory.{Location}
use Rattle.ray_memory.specs.State.{StateValue, memory_of}
use Rattle.ray_memory.specs.contracts.state.State.{the_view}
use Rattle.ray_memory.proofs.Changing.{memory-dropped_structure}
use Rattle.ray_action.specs.Action.{DestroyStructure}
use Rattle.ray_action.specs.Outcomes.{Gives, Nothing}
use Rattle.ray_action.specs.Storing.{put}
use Rattle.ray_memory.proofs.state.State.drop_structure.Goals as goal

pub returns : goal.returns
returns c =
    let new : StateValue = record { buffers = c.self.inside.buffers.entries; structures = c.remove_structure.new.structures.entries; bottoms = c.drop_id.new.self } in
    subst (λ (s : StateValue). (l : Location) → memory_of new l ≡ put (DestroyStructure c.args.id) (Gives Nothing) (memory_of s) l) c.self.view_is
    (memory-dropped_structure (the_view c.self.inside) new c.args.id c.remove_structure.ensures c.drop_id.ensures refl)
