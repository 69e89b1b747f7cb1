use Rattle.std.proofs.Common.{◌∙◌, ap, arith, length}
use Rattle.ray_tree.proofs.Sizes.{nodes-few}
use Rattle.ray_tree_part.proofs.Lengths.{length-stored_all}
use Rattle.ray_tree_part.proofs.ReadAgain.{written_again}
use Rattle.ray_tree_part.proofs.writing.append_tree.Goals as goal

pub append_part-requires-clause-nodes : goal.append_part-requires-clause-nodes
append_part-requires-clause-nodes c =
    let tree = c.args.tree.now in
    let many = ap length (c.deref.ensures.value ∙ c.in_ok-nodes.ensures) ∙ length-stored_all tree.nodes tree.boxes c.shape.ensures.boxed in
    let few = nodes-few tree c.shape.ensures in
    let most = c.limits.ensures in
    omega arith

pub returns-clause-again : goal.returns-clause-again
returns-clause-again c =
    let tree = c.args.tree.now in
    let stored = c.deref.ensures.value ∙ c.in_ok-nodes.ensures in
    let many = ap length stored ∙ length-stored_all tree.nodes tree.boxes c.shape.ensures.boxed in
    let few = nodes-few tree c.shape.ensures in
    let most = c.limits.ensures in
    let places = ap length c.order.ensures in
    written_again tree c.deref.result.now c.order.result.now c.append_part.result stored c.order.ensures (omega arith) (omega arith)
    c.append_part.ensures.all c.append_part.ensures.words
