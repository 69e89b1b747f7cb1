use Rattle.std.proofs.Common.{◌∙◌, ◌++◌, ap}
use Rattle.std.proofs.lemmas.Result.{on_ok_weaker}
use Rattle.ray_candidates.specs.Placements.{found_by_place}
use Rattle.ray_cert.specs.Checking.{placement_value}
use Rattle.ray_cert.proofs.finding.find_item.Goals as goal

pub returns-clause-value : goal.returns-clause-value
returns-clause-value g c =
    let a = c.args in
    let p = placement_value a.instance.now a.bottom.now in
    on_ok_weaker c.add.result
    (λ added. added ∙ ap (λ zs. a.found.now.items ++ zs)
    (c.find.ensures.value ∙ ap (found_by_place a.ray.now a.flags a.number p) c.place_of_item-place.ensures))
    c.add.ensures
