use Rattle.std.proofs.Common.{◌≡◌, refl, subst}
use Rattle.std.specs.Prelude.{Some}
use Rattle.ray_action.specs.Memory.{Location}
use Rattle.ray_memory.specs.Bytes.{BufferValue}
use Rattle.ray_memory.specs.State.{StateValue, memory_of}
use Rattle.ray_memory.specs.contracts.state.State.{the_view}
use Rattle.ray_action.specs.Outcomes.{Gives, Nothing}
use Rattle.ray_action.specs.Storing.{put}
use Rattle.ray_action.specs.Action.{MakeBuffer}
use Rattle.ray_memory.specs.State.{Becomes}
use Rattle.ray_memory.proofs.Changing.{memory-made_buffer, on-ok}
use Rattle.ray_memory.proofs.state.State.make_buffer.Goals as goal

pub returns-clause-ok : goal.returns-clause-ok
returns-clause-ok c =
    let new : StateValue = record { buffers = c.insert_buffer.new.buffers.entries; structures = c.self.inside.structures.entries; bottoms = c.self.inside.bottoms } in
    let made : BufferValue = c.in_ok-buffer.buffer in
    on-ok c.insert_buffer.result (Becomes c.args.id (Some made) c.self.inside.buffers.entries c.insert_buffer.new.buffers.entries)
    ((l : Location) → memory_of new l ≡ put (MakeBuffer c.args.id c.args.size (Some c.args.content.now)) (Gives Nothing) (memory_of c.args.self.now) l)
    (λ becomes.
    subst (λ (s : StateValue). (l : Location) → memory_of new l ≡ put (MakeBuffer c.args.id c.args.size (Some c.args.content.now)) (Gives Nothing) (memory_of s) l) c.self.view_is
    (memory-made_buffer (the_view c.self.inside) new c.args.id c.args.size (Some c.args.content.now) made becomes c.in_ok-buffer.ensures refl refl))
    c.insert_buffer.ensures.ok
