use Rattle.std.proofs.Common.{ap, subst}
use Rattle.ray_action.specs.Building.{update_builder}
use Rattle.ray_bottom.specs.Builders.{bare}
use Rattle.ray_bottom.specs.Trees.{without_tree}
use Rattle.ray_memory.specs.State.{memory_of}
use Rattle.ray_device.specs.Bottoms.{add_all_now, IsBuilder}
use Rattle.ray_device.proofs.bottoms.updated_bottom.Goals as goal

pub returns : goal.returns
returns g c =
    let m = memory_of c.args.state.now in
    let gs = c.args.geometries.now in
    c.finished.ensures (add_all_now m gs (update_builder (without_tree c.args.old.now)))
    (subst (λ b. IsBuilder (add_all_now m gs b) c.with_geometries-added.result) (ap bare c.for_update.ensures) c.with_geometries-added.ensures)
