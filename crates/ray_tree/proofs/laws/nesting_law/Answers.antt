use Rattle.ray_tree.proofs.Nested.{are_nested, are_around}
use Rattle.ray_tree.proofs.laws.nesting_law.Goals as goal

pub returns-clause-nodes : goal.returns-clause-nodes
returns-clause-nodes c over = are_nested c.args._tree.now c.args._items.now over

pub returns-clause-items : goal.returns-clause-items
returns-clause-items c over = are_around c.args._tree.now c.args._items.now over
