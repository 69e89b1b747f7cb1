use Rattle.std.proofs.Common.{◌≡◌, refl, sym, subst}
use Rattle.std.specs.Prelude.{if◌then◌else◌}
use Rattle.ray_action.specs.Memory.{Location, StructureAt}
use Rattle.ray_memory.specs.State.{StateValue, memory_of}
use Rattle.ray_memory.specs.contracts.state.State.{the_view}
use Rattle.ray_bottom.specs.Trees.{without_tree}
use Rattle.ray_action.specs.Areas.{is_contents_of}
use Rattle.ray_action.specs.Storing.{holding}
use Rattle.ray_cmd.specs.declared.structure_kind.StructureKind.TheVariants as kinds
use Rattle.ray_action.specs.Readiness.{IsMade}
use Rattle.ray_action.specs.Memory.{Bottom}
use Rattle.ray_memory.proofs.Changing.{memory-holds_bottom, roomy-filled}
use Rattle.ray_memory.proofs.state.State.hold_bottom.Goals as goal

pub returns : goal.returns
returns c =
    let new : StateValue = record { buffers = c.self.inside.buffers.entries; structures = c.self.inside.structures.entries; bottoms = c.put.new.self } in
    let made : IsMade kinds.Bottom (memory_of (the_view c.self.inside) (StructureAt c.args.structure)) =
    subst (λ (s : StateValue). IsMade kinds.Bottom (memory_of s (StructureAt c.args.structure))) (sym c.self.view_is) c.requires in
    subst (λ (s : StateValue). (l : Location) → memory_of new l ≡ (if is_contents_of c.args.structure l then holding (Bottom (without_tree c.args.bottom)) l (memory_of s l) else memory_of s l)) c.self.view_is
    (memory-holds_bottom (the_view c.self.inside) new c.args.structure c.args.bottom made c.put.ensures refl refl)

pub invariant_of-self : goal.invariant_of-self
invariant_of-self c =
    let made : IsMade kinds.Bottom (memory_of (the_view c.self.inside) (StructureAt c.args.structure)) =
    subst (λ (s : StateValue). IsMade kinds.Bottom (memory_of s (StructureAt c.args.structure))) (sym c.self.view_is) c.requires in
    roomy-filled c.self.inside.structures.entries c.self.inside.bottoms c.put.new.self c.args.structure c.args.bottom c.self.invariant made c.put.ensures
