use Rattle.ray_stated.proofs.Decided.{read_back}
use Rattle.ray_stated.proofs.laws.stored_law.Goals as goal

pub returns : goal.returns
returns c over preorder = read_back c.args._tree.now c.args._items.now over preorder
