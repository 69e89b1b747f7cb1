use Rattle.std.proofs.Common.{ap, subst}
use Rattle.ray_action.specs.Building.{new_builder}
use Rattle.ray_bottom.specs.Builders.{bare}
use Rattle.ray_memory.specs.State.{memory_of}
use Rattle.ray_device.specs.Bottoms.{add_all_now, IsBuilder}
use Rattle.ray_device.proofs.bottoms.built_bottom.Goals as goal

pub returns : goal.returns
returns g c =
    let m = memory_of c.args.state.now in
    let gs = c.args.geometries.now in
    c.finished.ensures (add_all_now m gs (new_builder c.args.flags))
    (subst (λ b. IsBuilder (add_all_now m gs b) c.with_geometries-added.result) (ap bare c.new.ensures) c.with_geometries-added.ensures)
