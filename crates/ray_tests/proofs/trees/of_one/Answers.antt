use Rattle.std.proofs.Common.{◌∙◌, ◌++◌, ◌∷◌, [], Some, ap, sym, subst}
use Rattle.ray_tree.specs.declared.node.Node.TheVariants.{Leaf}
use Rattle.ray_tree.specs.Trees.{TreeOver, tree_value}
use Rattle.ray_tree.proofs.OneItem.{one_tree}
use Rattle.ray_tests.proofs.trees.of_one.Goals as goal

pub of_parts-requires-clause-over : goal.of_parts-requires-clause-over
of_parts-requires-clause-over c =
    let nodes = c.in_ok-push.ensures.items ∙ ap (λ l. l ++ (Leaf 0 1 ∷ [])) c.new-nodes.ensures.items in
    let boxes = c.in_ok-push-2.ensures.items ∙ ap (λ l. l ++ (c.args.b ∷ [])) c.new-boxes.ensures.items in
    let order = c.in_ok-push-3.ensures.items ∙ ap (λ l. l ++ (0 ∷ [])) c.new-order.ensures.items in
    subst (λ t. TreeOver t (Some c.args.b ∷ [])) (sym (λ i. tree_value (nodes i) (boxes i) (order i))) (one_tree c.args.b)
