use Rattle.ray_tree.specs.Shapes.{levels}
use Rattle.ray_tree.specs.Trees.{shape_at}
use Rattle.ray_cert.proofs.cutting.+take_node.Given as goal

-- what is below a child has fewer levels
abbrev pub decreases-take_node : goal.decreases-take_node
decreases-take_node g l = levels (shape_at l.tree.now l.node)
