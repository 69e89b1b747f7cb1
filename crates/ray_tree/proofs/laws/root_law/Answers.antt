use Rattle.ray_tree.proofs.Rooted.{has_root}
use Rattle.ray_tree.proofs.laws.root_law.Goals as goal

pub returns : goal.returns
returns c over = has_root c.args._tree.now c.args._items.now over
