use Rattle.std.proofs.Common.{◌∙◌, subst, sym}
use Rattle.ray_nearest.specs.Taking.{IsKnown, Takes}
use Rattle.ray_nearest.specs.TurnLaws.{turn_of}
use Rattle.ray_nearest.proofs.Underway.{answers, begins, bounds, goes_on, known, lighter}
use Rattle.ray_nearest.proofs.nearest.walk.Goals as goal

pub loop-turn-init : goal.loop-turn-init
loop-turn-init g c = record {
  kept = c.begin.ensures.kept;
  underway = begins (g.S.Scene.IsNode c.args.scene.now) (g.S.Scene.scene c.args.scene.now) c.requires.scene c.passing_law.ensures.left_out
      (g.C.Client.meaning c.args.client.now) c.args.ray c.args.flags c.args.steps.now
      c.clear.new.self c.begin.new.turns c.initialize-query.result c.clear.ensures c.initialize-query.ensures c.in_ok-begin.ensures.begun;
}

pub take-requires-clause-known : goal.take-requires-clause-known
take-requires-clause-known g c =
    subst (λ scene. IsKnown (g.S.Scene.IsNode scene) (turn_of c.in-Some.turn)) (sym c.loop-turn.invariant.kept)
    (known (g.S.Scene.IsNode c.args.scene.now) (g.S.Scene.scene c.args.scene.now) c.requires.scene c.passing_law.ensures.left_out
    (g.C.Client.meaning c.args.client.now) c.args.ray c.args.flags c.args.steps.now
    (turn_of c.in-Some.turn) c.loop-turn.turns c.next_turn.new.turns c.loop-turn.query c.loop-turn.steps c.loop-turn.invariant.underway c.in-Some.ensures)

pub loop-turn-smaller : goal.loop-turn-smaller
loop-turn-smaller g c =
    lighter (g.S.Scene.IsNode c.args.scene.now) (g.S.Scene.scene c.args.scene.now) c.requires.scene c.passing_law.ensures.left_out
    (g.C.Client.meaning c.args.client.now) c.args.ray c.args.flags c.args.steps.now
    (turn_of c.in-Some.turn) c.loop-turn.turns c.next_turn.new.turns c.take.new.turns c.loop-turn.query c.take.new.query c.loop-turn.steps c.take.new.steps
    c.loop-turn.invariant.underway c.in-Some.ensures
    (subst (λ scene. Takes (g.C.Client.meaning c.args.client.now) (g.S.Scene.scene scene) (turn_of c.in-Some.turn) c.loop-turn.query c.next_turn.new.turns
    c.loop-turn.steps c.take.new.query c.take.new.turns c.take.new.steps) c.loop-turn.invariant.kept c.in_ok-take.ensures.taken)

pub loop-turn-preserved : goal.loop-turn-preserved
loop-turn-preserved g c = record {
  kept = c.take.ensures.kept ∙ c.loop-turn.invariant.kept;
  underway = goes_on (g.S.Scene.IsNode c.args.scene.now) (g.S.Scene.scene c.args.scene.now) c.requires.scene c.passing_law.ensures.left_out
      (g.C.Client.meaning c.args.client.now) c.args.ray c.args.flags c.args.steps.now
      (turn_of c.in-Some.turn) c.loop-turn.turns c.next_turn.new.turns c.take.new.turns c.loop-turn.query c.take.new.query c.loop-turn.steps c.take.new.steps
      c.loop-turn.invariant.underway c.in-Some.ensures
      (subst (λ scene. Takes (g.C.Client.meaning c.args.client.now) (g.S.Scene.scene scene) (turn_of c.in-Some.turn) c.loop-turn.query c.next_turn.new.turns
      c.loop-turn.steps c.take.new.query c.take.new.turns c.take.new.steps) c.loop-turn.invariant.kept c.in_ok-take.ensures.taken);
}

pub returns-clause-answer : goal.returns-clause-answer
returns-clause-answer g c =
    c.committed.ensures ∙
    answers (g.S.Scene.IsNode c.args.scene.now) (g.S.Scene.scene c.args.scene.now) c.requires.scene c.passing_law.ensures.left_out
    (g.C.Client.meaning c.args.client.now) c.args.ray c.args.flags c.args.steps.now c.parts_law.ensures.over
    c.loop-turn.turns c.next_turn.new.turns c.loop-turn.query c.loop-turn.steps c.loop-turn.invariant.underway c.in_default.ensures

pub returns-clause-bound : goal.returns-clause-bound
returns-clause-bound g c =
    bounds (g.S.Scene.IsNode c.args.scene.now) (g.S.Scene.scene c.args.scene.now) c.requires.scene c.passing_law.ensures.left_out
    (g.C.Client.meaning c.args.client.now) c.args.ray c.args.flags c.args.steps.now
    c.loop-turn.turns c.loop-turn.query c.loop-turn.steps c.committed.result c.committed.ensures c.loop-turn.invariant.underway
