use Rattle.std.proofs.Common.{◌≡◌, refl, sym, subst}
use Rattle.std.specs.Prelude.{Some, None}
use Rattle.ray_action.specs.Memory.{Location, StructureAt}
use Rattle.ray_memory.specs.State.{StateValue, memory_of}
use Rattle.ray_memory.specs.contracts.state.State.{the_view}
use Rattle.ray_action.specs.Outcomes.{Gives, Nothing}
use Rattle.ray_action.specs.Storing.{put}
use Rattle.ray_action.specs.Action.{MakeStructure}
use Rattle.ray_memory.specs.declared.structure.Structure.{Structure}
use Rattle.ray_memory.specs.State.{Becomes}
use Rattle.ray_memory.proofs.Changing.{memory-made_structure, on-ok}
use Rattle.ray_memory.proofs.state.State.make_structure.Goals as goal

pub returns-clause-ok : goal.returns-clause-ok
returns-clause-ok c =
    let new : StateValue = record { buffers = c.self.inside.buffers.entries; structures = c.insert_structure.new.structures.entries; bottoms = c.make_room_for.new.bottoms } in
    let made : Structure = record { form = c.args.form; top = None } in
    let none : memory_of (the_view c.self.inside) (StructureAt c.args.id) ≡ None =
    subst (λ (s : StateValue). memory_of s (StructureAt c.args.id) ≡ None) (sym c.self.view_is) c.requires in
    on-ok c.insert_structure.result (Becomes c.args.id (Some made) c.self.inside.structures.entries c.insert_structure.new.structures.entries)
    ((l : Location) → memory_of new l ≡ put (MakeStructure c.args.id c.args.form) (Gives Nothing) (memory_of c.args.self.now) l)
    (λ becomes.
    subst (λ (s : StateValue). (l : Location) → memory_of new l ≡ put (MakeStructure c.args.id c.args.form) (Gives Nothing) (memory_of s) l) c.self.view_is
    (memory-made_structure (the_view c.self.inside) new c.args.id c.args.form c.self.invariant none becomes c.in_ok-make_room_for.ensures.ok.same refl))
    c.insert_structure.ensures.ok
