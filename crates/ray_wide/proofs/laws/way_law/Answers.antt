use Rattle.ray_wide.proofs.Reaching.{are_reached}
use Rattle.ray_wide.proofs.laws.way_law.Goals as goal

pub returns : goal.returns
returns c over = are_reached c.args.tree.now c.args._wide.now c.shape.ensures over.collapsed
