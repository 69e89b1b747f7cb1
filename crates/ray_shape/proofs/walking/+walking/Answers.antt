use Rattle.std.proofs.Common.{rules, arith, ◌≡◌, ◌<◌, ◌+◌, ◌*◌, ◌∙◌, Some, None, false, sym, ap, not}
use Rattle.std.specs.Prelude.{is_some}
use Rattle.serde_json.specs.Data.{Data, array}
use Rattle.serde_json.specs.Find.{as_array, as_object, get_item}
use Rattle.serde_json.specs.View.{items_view, view}
use Rattle.serde_json.proofs.Views.{get_item_within}
use Rattle.ray_shape.specs.declared.wrong.Wanted.TheVariants as wanted
use Rattle.ray_shape.proofs.Walks.{form_finds, formless_finds, here_wrong, list_finds, not_object}
use Rattle.ray_shape.proofs.Weight.{array_weight, item_weight, items_weight, member_weight, weight}
use Rattle.ray_shape.proofs.walking.+walking.Goals as goal

pub walk_found-find_wrong-requires : goal.walk_found-find_wrong-requires
walk_found-find_wrong-requires t c =
    let less = member_weight c.args.row.now.name.now (view c.args.object.now) (view c.args.value.now) c.requires in
    let below : 9 * weight (view c.args.value.now) + 8 < 9 * weight (view c.args.object.now) + 3 = omega (arith, less) in
    search rules

pub walk_item-find_wrong-requires : goal.walk_item-find_wrong-requires
walk_item-find_wrong-requires t c =
    let least = item_weight (items_view c.args.items.now) c.args.number (view c.args.value.now) c.requires in
    let below : 9 * weight (view c.args.value.now) + 8 < 9 * items_weight (items_view c.args.items.now) + 9 = omega (arith, least) in
    search rules

pub walk_list-returns-in-Some : goal.walk_list-returns-in-Some
walk_list-returns-in-Some t c =
    let here : as_array (view c.args.value.now) ≡ Some (items_view c.as_slice.result.now) = search rules in
    list_finds c.args.item (view c.args.value.now) (items_view c.as_slice.result.now) c.walk_items.result here c.walk_items.ensures

pub walk_object-returns-then-not-is_object : goal.walk_object-returns-then-not-is_object
walk_object-returns-then-not-is_object t c =
    let none : is_some (as_object (view c.args.value.now)) ≡ false = search rules in (
      not_object c.args.kind (view c.args.value.now) none,
      here_wrong c.here.result (wanted.Object c.args.kind) (view c.args.value.now) c.here.ensures.path c.here.ensures.wanted none,
    )

pub walk_object-returns-in-Some : goal.walk_object-returns-in-Some
walk_object-returns-in-Some t c =
    form_finds c.args.kind (view c.args.value.now) c.in-Some.form c.walk_form.result (sym c.form_of.ensures ∙ c.in-Some.is) c.walk_form.ensures

pub walk_object-returns-in-None : goal.walk_object-returns-in-None
walk_object-returns-in-None t c =
    formless_finds c.args.kind (view c.args.value.now) c.no_form.result (sym c.form_of.ensures ∙ c.in-None.is) c.no_form.ensures

pub walk_items-walk_item-requires : goal.walk_items-walk_item-requires
walk_items-walk_item-requires t c =
    let items = c.args.items.now in
    let number = c.loop-number.number in
    let value = c.index-items-number.result in
    let here : get_item number (items_view items) ≡ Some (view value) =
    sym (ap (λ v. Some (view v)) c.index-items-number.is ∙ get_item_within items number value c.loop-number-test.true) in
    let below : 9 * items_weight (items_view items) + 9 < 9 * items_weight (items_view items) + 10 = omega arith in (
      search rules,
      here,
    )
