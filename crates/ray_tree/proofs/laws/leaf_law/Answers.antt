use Rattle.ray_tree.proofs.Nested.{are_apart}
use Rattle.ray_tree.proofs.laws.leaf_law.Goals as goal

pub returns : goal.returns
returns c over = are_apart c.args._tree.now c.args._items.now over
