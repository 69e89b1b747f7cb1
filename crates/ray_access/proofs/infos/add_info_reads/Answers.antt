use Rattle.std.proofs.Common.{subst}
use Rattle.std.specs.Option.{option_to_list}
use Rattle.std.specs.List.{flat_map}
use Rattle.std.proofs.lemmas.Result.{on_ok_weaker}
use Rattle.std.specs.Prelude.{◌∷◌, []}
use Rattle.ray_rules.specs.Access.{input_reads, structure_reads}
use Rattle.ray_access.specs.Lists.{Adds}
use Rattle.ray_access.proofs.Joining.{adds_then}
use Rattle.ray_access.proofs.infos.add_info_reads.Goals as goal

pub returns : goal.returns
returns c =
    let z = c.args.status.now in
    on_ok_weaker c.add.result (λ last.
    adds_then z (flat_map (input_reads z.buffers) c.args.info.now.geometries) _ c.args.list.now.items
    c.add_listed_geometries.new.list.items c.add.new.list.items c.in_ok-add_listed_geometries.ensures
    (adds_then z (structure_reads c.args.info.now.uses) _ c.add_listed_geometries.new.list.items
    c.add_uses.new.list.items c.add.new.list.items c.in_ok-add_uses.ensures
    (adds_then z (structure_reads (option_to_list c.args.info.now.src)) _ c.add_uses.new.list.items
    c.add_structure_if.new.list.items c.add.new.list.items c.in_ok-add_structure_if.ensures
    (subst (λ t. Adds z (t ∷ []) c.add_structure_if.new.list.items c.add.new.list.items) c.scratch.ensures.value last)))) c.add.ensures
