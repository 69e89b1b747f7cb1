use Rattle.std.proofs.Common.{◌∙◌, sym, ap, option_map}
use Rattle.ray_bottom.specs.Meeting.{raw_meet_value}
use Rattle.ray_candidates.specs.Placements.{met_at_place}
use Rattle.ray_walk.specs.Scenes.{placement_value}
use Rattle.ray_candidates.specs.Telling.{found_raw}
use Rattle.ray_candidates.proofs.MetAtPlace.{met-found, none-met}
use Rattle.ray_walk.proofs.leaf.find_in.Goals as goal

pub returns-in_err-meet : goal.returns-in_err-meet
returns-in_err-meet c =
    let a = c.args in
    let p = placement_value a.looked.now in
    let place = a.item.now.place in
    ap found_raw c.from_residual.ensures ∙
    (sym (none-met a.flags a.i p place) ∙
    (ap (λ told. met_at_place a.flags a.i p place (option_map raw_meet_value told)) (sym c.in_err-meet.was) ∙
    met-found a.ray.now a.flags a.i p place (option_map raw_meet_value c.test_item.result) c.test_item.ensures))

pub returns : goal.returns
returns c =
    let a = c.args in
    let p = placement_value a.looked.now in
    let place = a.item.now.place in
    c.find_met.ensures ∙
    (ap (λ told. met_at_place a.flags a.i p place (option_map raw_meet_value told)) (sym c.in_ok-meet.was) ∙
    met-found a.ray.now a.flags a.i p place (option_map raw_meet_value c.test_item.result) c.test_item.ensures)
