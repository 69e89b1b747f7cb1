use Rattle.std.proofs.Common.{◌≡◌, ◌∙◌, ap, length, arith}
use Rattle.ray_tree.specs.Shapes.{shape_in, tips}
use Rattle.ray_tree.specs.Trees.{tree_value, leaves_of}
use Rattle.ray_tree.proofs.Sizes.{leaves-few, nodes-few}
use Rattle.ray_tree.proofs.tree.Tree.kept.Goals as goal

pub invariant_of-result : goal.invariant_of-result
invariant_of-result c =
    let tree = tree_value c.args.nodes.items c.args.boxes.items c.args.order.items in
    let listed : c.in_ok-leaves.leaves.items ≡ leaves_of tree =
    c.in_ok-leaves.ensures ∙ ap (λ nodes. tips (shape_in (length nodes) nodes 0)) c.deref.ensures.value in
    record {
      shape = c.requires.shape;
      listed = listed;
      few_places = c.requires.few;
      few_nodes = omega (arith, nodes-few tree c.requires.shape, c.requires.few);
      few_leaves = omega (arith, ap length listed, leaves-few tree c.requires.shape, nodes-few tree c.requires.shape, c.requires.few);
    }
