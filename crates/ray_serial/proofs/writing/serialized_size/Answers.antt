use Rattle.std.proofs.Common.{sym, ◌∙◌, ◌+◌, ◌*◌}
use Rattle.ray_bottom.specs.Trees.{without_tree}
use Rattle.ray_serial.proofs.BottomForms.{length-bottom_form}
use Rattle.ray_serial.proofs.writing.serialized_size.Goals as goal

pub returns : goal.returns
returns c =
    let geometries = c.from.ensures ∙ c.geometries-geometries.ensures.value in
    let total = c.from-2.ensures ∙ c.total-total.ensures.value in
    (λ i. 72 + 32 * geometries i + c.element_size-size.ensures.value i * total i)
    ∙ sym (length-bottom_form c.kind_of_all.result (without_tree c.args.bottom.now) c.total-total.ensures.limits c.kind_of_all.ensures.all)
