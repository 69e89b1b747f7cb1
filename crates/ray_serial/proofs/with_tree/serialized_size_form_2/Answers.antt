use Rattle.std.proofs.Common.{◌∙◌, ◌+◌, sym, arith}
use Rattle.ray_bottom.specs.Trees.{without_tree, items_of}
use Rattle.ray_bottom.proofs.Places.{items-active}
use Rattle.ray_serial.proofs.Form2Back.{few_items, active_few, length-bottom_form_2, form_2_length_few}
use Rattle.ray_serial.proofs.with_tree.serialized_size_form_2.Goals as goal

pub stated_size-requires : goal.stated_size-requires
stated_size-requires c =
    let few = active_few (without_tree c.args.bottom.now) c.total-limits.ensures.limits in
    let same = c.active.ensures in
    omega arith

pub overflow_add-result : goal.overflow_add-result
overflow_add-result c =
    let is = c.total-limits.ensures.limits in
    let b = without_tree c.args.bottom.now in
    let size = length-bottom_form_2 b is in
    let part = c.stated_size.ensures (items_of b.geometries) (few_items b is) (items-active b.geometries ∙ sym c.active.ensures) in
    let form = c.serialized_size.ensures in
    let few = form_2_length_few b is in
    omega arith

pub returns : goal.returns
returns c =
    let is = c.total-limits.ensures.limits in
    let b = without_tree c.args.bottom.now in
    let part = c.stated_size.ensures (items_of b.geometries) (few_items b is) (items-active b.geometries ∙ sym c.active.ensures) in
    (λ i. c.serialized_size.ensures i + part i) ∙ sym (length-bottom_form_2 b is)
