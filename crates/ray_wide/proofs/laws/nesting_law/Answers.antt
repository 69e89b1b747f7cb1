use Rattle.ray_wide.proofs.Boxing.{are_in_parents}
use Rattle.ray_wide.proofs.laws.nesting_law.Goals as goal

pub returns : goal.returns
returns c tree_over over = are_in_parents c.args._tree.now c.args._wide.now c.args._items.now tree_over over
