use Rattle.std.proofs.Common.{[], subst, sym}
use Rattle.ray_memory.specs.State.{memory_of}
use Rattle.ray_device.specs.Bottoms.{CanAdd}
use Rattle.ray_device.proofs.infos.bottom_again.Goals as goal

pub updated_bottom-requires-clause-can : goal.updated_bottom-requires-clause-can
updated_bottom-requires-clause-can g c κs within =
    subst (λ gs. CanAdd (memory_of c.args.state.now) gs []) (sym c.as_slice.ensures.items) c.requires.can
