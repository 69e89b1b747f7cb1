use Rattle.std.proofs.Common.{◌∙◌, ◌∷◌, [], sym, ap, Some, option_map}
use Rattle.std.specs.Option.{option_to_list}
use Rattle.ray_bottom.specs.Meeting.{meet_value}
use Rattle.ray_query.specs.declared.found.Found.{Found}
use Rattle.ray_candidates.specs.Candidates.{admitted}
use Rattle.ray_candidates.specs.Telling.{found_raw, placed_value}
use Rattle.ray_candidates.proofs.Findings.{found_at-told}
use Rattle.ray_candidates.proofs.finding.find.Goals as goal

pub returns-in_err-meet-clause-value : goal.returns-in_err-meet-clause-value
returns-in_err-meet-clause-value g c =
    found_at-told c.args.ray.now c.args.flags c.args.bottom.now.geometries (placed_value c.args.at.now) c.args.primitive
    (option_map meet_value c.test_prim.result) c.test_prim.ensures.meet (option_to_list c.from_residual.result)
    (ap option_to_list c.from_residual.ensures ∙
    ap (λ told. admitted c.args.flags (placed_value c.args.at.now) c.args.primitive (option_map meet_value told)) (sym c.in_err-meet.was))

pub returns-in_err-found-clause-value : goal.returns-in_err-found-clause-value
returns-in_err-found-clause-value g c =
    let at = placed_value c.args.at.now in
    found_at-told c.args.ray.now c.args.flags c.args.bottom.now.geometries at c.args.primitive
    (option_map meet_value c.test_prim.result) c.test_prim.ensures.meet (option_to_list c.from_residual-in_err-found.result)
    (ap option_to_list c.from_residual-in_err-found.ensures ∙ (ap found_raw (sym c.in_err-found.was) ∙ (c.admit.ensures ∙
    (ap (λ m. admitted c.args.flags at c.args.primitive (Some m)) c.of.ensures ∙
    ap (λ told. admitted c.args.flags at c.args.primitive (option_map meet_value told)) (sym c.in_ok-meet.was)))))

pub returns-clause-value : goal.returns-clause-value
returns-clause-value g c =
    let at = placed_value c.args.at.now in
    found_at-told c.args.ray.now c.args.flags c.args.bottom.now.geometries at c.args.primitive
    (option_map meet_value c.test_prim.result) c.test_prim.ensures.meet (c.reduced.result ∷ [])
    (ap (λ (f : Found). f ∷ []) c.reduced.ensures ∙ (ap found_raw (sym c.in_ok-found.was) ∙ (c.admit.ensures ∙
    (ap (λ m. admitted c.args.flags at c.args.primitive (Some m)) c.of.ensures ∙
    ap (λ told. admitted c.args.flags at c.args.primitive (option_map meet_value told)) (sym c.in_ok-meet.was)))))
