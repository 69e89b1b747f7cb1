use Rattle.ray_top.specs.Trees.{without_tree}
use Rattle.ray_candidates.proofs.Placing.{AreStanding-here}
use Rattle.ray_candidates.proofs.laws.standing_law.Goals as goal

pub returns : goal.returns
returns c = AreStanding-here (without_tree c.args.top.now) _ c.len-limits.ensures.limits c.requires
