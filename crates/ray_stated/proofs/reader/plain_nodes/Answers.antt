use Rattle.std.proofs.Common.{◌∙◌, ◌++◌, ◌∷◌, [], sym, arith}
use Rattle.ray_stated.proofs.Reading.{nodes_more}
use Rattle.ray_stated.proofs.reader.plain_nodes.Goals as goal

pub loop-i-preserved : goal.loop-i-preserved
loop-i-preserved c =
    c.in_ok-push.ensures.items ∙ (λ j. c.loop-i.invariant j ++ (c.plain_node.ensures j ∷ []))
    ∙ sym (nodes_more c.args.stored.now c.loop-i.i c.index-stored-i.result (omega arith) c.index-stored-i.is)
