use Rattle.std.proofs.Common.{◌∙◌, sym}
use Rattle.ray_nearest.specs.declared.turn.Turn.TheVariants.{Node}
use Rattle.ray_nearest.specs.TurnLaws.{turn_of}
use Rattle.ray_nearest.proofs.Popping.{pushed}
use Rattle.ray_nearest.proofs.turns.Turns.push_node.Goals as goal

pub returns-in_ok-push : goal.returns-in_ok-push
returns-in_ok-push c =
    pushed c.args.limit (Node c.args.entry c.args.node) (turn_of c.node.result) c.args.self.now c.push.new.self
    (sym c.is_within.ensures ∙ c.if-is_within.true) c.node.ensures c.in_ok-push.ensures
