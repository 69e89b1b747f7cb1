use Rattle.std.proofs.Common.{◌∙◌, ◌∷◌, ap, subst, sym}
use Rattle.std.specs.List.Sorted.{IsPermutation}
use Rattle.ray_geom.specs.Ratio.{ratio_of}
use Rattle.ray_query.specs.Raw.{reduced_found}
use Rattle.ray_nearest.specs.declared.turn.Turn.TheVariants.{Candidate}
use Rattle.ray_nearest.specs.TurnLaws.{turn_of}
use Rattle.ray_nearest.proofs.Popping.{left_out, pushed}
use Rattle.ray_nearest.proofs.SameDistance.{same-within}
use Rattle.ray_nearest.proofs.turns.Turns.push_found.Goals as goal

pub returns-in_ok-push : goal.returns-in_ok-push
returns-in_ok-push c =
    let f = c.args.found in
    pushed c.args.limit (Candidate (reduced_found f)) (turn_of c.candidate.result) c.args.self.now c.push.new.self
    (sym (c.is_within.ensures ∙ same-within c.args.limit c.ratio.result (ratio_of f.t) c.ratio.ensures) ∙ c.if-is_within.true)
    (c.candidate.ensures ∙ ap (λ g. Candidate (reduced_found g)) c.in_ok-found.ensures)
    (subst (λ ts. IsPermutation (turn_of c.candidate.result ∷ ts) c.push.new.self) c.self.view_is c.in_ok-push.ensures)

pub returns-else-is_within : goal.returns-else-is_within
returns-else-is_within c =
    let f = c.args.found in
    left_out c.args.limit (Candidate (reduced_found f)) c.args.self.now
    (sym (c.is_within.ensures ∙ same-within c.args.limit c.ratio.result (ratio_of f.t) c.ratio.ensures) ∙ c.if-is_within.false)
