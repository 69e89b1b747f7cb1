use Rattle.std.proofs.Common.{rules, ◌∙◌, sym, ap, inr}
use Rattle.ray_query.specs.Limits.{distance_of, is_within}
use Rattle.ray_nearest.specs.TurnLaws.{turn_of}
use Rattle.ray_nearest.specs.Turns.{turn_at}
use Rattle.ray_nearest.proofs.Popping.{all_beyond}
use Rattle.ray_nearest.proofs.SameDistance.{same-within}
use Rattle.ray_nearest.proofs.nearest.next_turn.Goals as goal

pub returns-else-is_within : goal.returns-else-is_within
returns-else-is_within c =
    inr (all_beyond (distance_of c.args.query.now.state.committed) (turn_of c.in_ok-turn.turn) c.args.turns.now c.pop.new.self
    (sym (c.is_within.ensures ∙ (ap (λ limit. is_within limit c.in_ok-turn.turn.at) c.distance_of.ensures ∙ same-within (distance_of c.args.query.now.state.committed) c.in_ok-turn.turn.at (turn_at (turn_of c.in_ok-turn.turn)) c.in_ok-turn.turn.same)) ∙ c.if-is_within.false)
    c.in_ok-turn.ensures.0 c.in_ok-turn.ensures.1)

pub returns-then-is_within : goal.returns-then-is_within
returns-then-is_within c =
    let d = distance_of c.args.query.now.state.committed in
    let turn = c.in_ok-turn.turn in (
      search rules,
      sym (c.is_within.ensures ∙ (ap (λ limit. is_within limit turn.at) c.distance_of.ensures ∙ same-within d turn.at (turn_at (turn_of turn)) turn.same)) ∙ c.if-is_within.true,
      c.in_ok-turn.ensures.0,
      c.in_ok-turn.ensures.1,
    )
