use Rattle.std.proofs.Common.{◌∙◌, ◌++◌, ap, option_map, sym, Some}
use Rattle.std.specs.List.{flat_map}
use Rattle.ray_candidates.specs.Placements.{found_by_item}
use Rattle.ray_cert.specs.Checking.{placement_value}
use Rattle.ray_cert.proofs.StringsRead.{string-read-as}
use Rattle.ray_cert.proofs.strings.check_string.Goals as goal

pub returns-in-None-clause-value : goal.returns-in-None-clause-value
returns-in-None-clause-value g c =
    let a = c.args in
    let p = placement_value a.placed.now.instance.now a.placed.now.bottom.now in
    let find = found_by_item a.told.now.ray.now a.told.now.flags a.placed.now.number p in
    string-read-as a.told.now.limit.now a.told.now.ray.now a.told.now.flags a.placed.now.number p a.placed.now.tree.now c.object_ray-object.result a.digits.now a.found.now.items
    (option_map (λ v. v.items) c.in_ok-items_of_string.field-0) c.object_ray-object.ensures.value c.in_ok-items_of_string.ensures.value
    ∙ ap (λ o. option_map (λ items. a.found.now.items ++ flat_map find items) (option_map (λ v. v.items) o)) c.in-None.is

pub returns-in_ok-find_items-in-Some-clause-value : goal.returns-in_ok-find_items-in-Some-clause-value
returns-in_ok-find_items-in-Some-clause-value g c =
    let a = c.args in
    let p = placement_value a.placed.now.instance.now a.placed.now.bottom.now in
    let find = found_by_item a.told.now.ray.now a.told.now.flags a.placed.now.number p in
    string-read-as a.told.now.limit.now a.told.now.ray.now a.told.now.flags a.placed.now.number p a.placed.now.tree.now c.object_ray-object.result a.digits.now a.found.now.items
    (option_map (λ v. v.items) c.in_ok-items_of_string.field-0) c.object_ray-object.ensures.value c.in_ok-items_of_string.ensures.value
    ∙ (ap (λ o. option_map (λ items. a.found.now.items ++ flat_map find items) (option_map (λ v. v.items) o)) c.in-Some.is
    ∙ ap Some (sym (c.in_ok-find_items-in-Some.ensures.value ∙ ap (λ xs. a.found.now.items ++ flat_map find xs) c.deref.ensures.value)))
