use Rattle.ray_tree.proofs.Nested.{is_low}
use Rattle.ray_tree.proofs.laws.level_law.Goals as goal

pub returns : goal.returns
returns c = is_low c.args.tree.now c.shape.ensures
