use Rattle.std.proofs.Common.{◌∙◌, ◌∷◌, [], sym, ap, Some, option_map}
use Rattle.std.specs.Option.{option_to_list}
use Rattle.ray_bottom.specs.Meeting.{meet_value}
use Rattle.ray_query.specs.declared.found.Found.{Found}
use Rattle.ray_candidates.specs.Placements.{met_at_place}
use Rattle.ray_candidates.specs.Telling.{found_raw}
use Rattle.ray_candidates.proofs.MetAtPlace.{met-found, none-met}
use Rattle.ray_cert.specs.Checking.{placement_value}
use Rattle.ray_cert.proofs.finding.find.Goals as goal

pub returns-in_err-meet-clause-value : goal.returns-in_err-meet-clause-value
returns-in_err-meet-clause-value g c =
    let a = c.args in
    let p = placement_value a.instance.now a.bottom.now in
    ap option_to_list c.from_residual.ensures ∙
    (sym (none-met a.flags a.number p a.place) ∙
    (ap (λ told. met_at_place a.flags a.number p a.place (option_map meet_value told)) (sym c.in_err-meet.was) ∙
    met-found a.ray.now a.flags a.number p a.place (option_map meet_value c.test_prim.result) c.test_prim.ensures.meet))

pub returns-in_err-found-clause-value : goal.returns-in_err-found-clause-value
returns-in_err-found-clause-value g c =
    let a = c.args in
    let p = placement_value a.instance.now a.bottom.now in
    ap option_to_list c.from_residual-in_err-found.ensures ∙ (ap found_raw (sym c.in_err-found.was) ∙ (c.find_met.ensures ∙
    (ap (λ m. met_at_place a.flags a.number p a.place (Some m)) c.of.ensures ∙
    (ap (λ told. met_at_place a.flags a.number p a.place (option_map meet_value told)) (sym c.in_ok-meet.was) ∙
    met-found a.ray.now a.flags a.number p a.place (option_map meet_value c.test_prim.result) c.test_prim.ensures.meet))))

pub returns-clause-value : goal.returns-clause-value
returns-clause-value g c =
    let a = c.args in
    let p = placement_value a.instance.now a.bottom.now in
    ap (λ (f : Found). f ∷ []) c.reduced.ensures ∙ (ap found_raw (sym c.in_ok-found.was) ∙ (c.find_met.ensures ∙
    (ap (λ m. met_at_place a.flags a.number p a.place (Some m)) c.of.ensures ∙
    (ap (λ told. met_at_place a.flags a.number p a.place (option_map meet_value told)) (sym c.in_ok-meet.was) ∙
    met-found a.ray.now a.flags a.number p a.place (option_map meet_value c.test_prim.result) c.test_prim.ensures.meet))))
