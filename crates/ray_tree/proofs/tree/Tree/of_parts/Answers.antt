use Rattle.std.proofs.Common.{arith}
use Rattle.ray_tree.specs.Trees.{tree_value}
use Rattle.ray_tree.proofs.Sizes.{places-over}
use Rattle.ray_tree.proofs.tree.Tree.of_parts.Goals as goal

pub kept-requires-clause-few : goal.kept-requires-clause-few
kept-requires-clause-few c =
    omega (arith, places-over (tree_value c.args.nodes.items c.args.boxes.items c.args.order.items) c.args._items.now c.requires.over)
