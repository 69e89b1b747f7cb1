use Rattle.std.proofs.Common.{◌∙◌}
use Rattle.ray_bottom.specs.Trees.{without_tree}
use Rattle.ray_serial.proofs.Form2Back.{form_2_fits}
use Rattle.ray_serial.proofs.with_tree.bottom_form_2.Goals as goal

pub form_2_bytes-requires : goal.form_2_bytes-requires
form_2_bytes-requires c =
    form_2_fits (without_tree c.args.bottom.now) c.as_slice.result.now c.as_slice-2.result.now c.geometries.ensures.limits
    (c.as_slice.ensures.value ∙ c.in_ok-payload.ensures.value) (c.as_slice-2.ensures.value ∙ c.in_ok-part.ensures.value)
