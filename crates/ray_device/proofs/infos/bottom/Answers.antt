use Rattle.std.proofs.Common.{[], subst, sym}
use Rattle.ray_memory.specs.State.{memory_of}
use Rattle.ray_device.specs.Bottoms.{CanAdd}
use Rattle.ray_device.specs.Infos.{CanBuildBottom}
use Rattle.ray_device.proofs.infos.bottom.Goals as goal

pub built_bottom-requires-clause-can : goal.built_bottom-requires-clause-can
built_bottom-requires-clause-can g c κs within =
    let m = memory_of c.args.state.now in
    let can = subst (λ mode. CanBuildBottom m c.args.info.now mode c.args.src) c.in-Build-default.is-0 c.requires in
    subst (λ gs. CanAdd m gs []) (sym c.as_slice.ensures.items) can.0
