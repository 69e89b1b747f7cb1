use Rattle.std.proofs.Common.{◌∙◌, ◌++◌, ◌∷◌, [], sym, arith}
use Rattle.ray_stated.proofs.Respelled.{stored_more}
use Rattle.ray_stated.proofs.storing.store.Goals as goal

pub loop-i-preserved : goal.loop-i-preserved
loop-i-preserved c =
    let tree = c.args.tree.now in
    c.in_ok-push.ensures.items ∙ (λ j. c.loop-i.invariant j ++ (c.stored_node.ensures j ∷ []))
    ∙ sym (stored_more tree.nodes tree.boxes c.loop-i.i c.node.result c.node_box.result c.shape.ensures.boxed (omega arith)
    c.node.ensures.value (c.node_box.ensures c.node_box.result))
