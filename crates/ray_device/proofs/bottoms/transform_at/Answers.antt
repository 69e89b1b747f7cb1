use Rattle.std.proofs.Common.{◌∙◌, ap, sym, subst}
use Rattle.std.specs.Prelude.{IfSome}
use Rattle.ray_action.specs.Building.{transform_in}
use Rattle.ray_action.specs.Seeing.{see_range}
use Rattle.ray_memory.specs.State.{memory_of}
use Rattle.ray_device.specs.Bottoms.{IsTransformThere}
use Rattle.ray_device.proofs.Adding.{transform_is}
use Rattle.ray_device.proofs.bottoms.transform_at.Goals as goal

pub returns-in-Some : goal.returns-in-Some
returns-in-Some c =
    let m = memory_of c.args.state.now in
    let there : IsTransformThere m c.in-Some.range = subst (λ r. IfSome r (IsTransformThere m)) c.in-Some.is c.requires in
    c.new.ensures
    ∙ (transform_is m c.in-Some.range c.bytes_read.result.now there c.bytes_read.ensures
    ∙ ap (λ r. transform_in (see_range m r)) (sym c.in-Some.is))
