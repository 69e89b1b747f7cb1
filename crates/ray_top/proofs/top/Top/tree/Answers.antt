use Rattle.std.proofs.Common.{subst}
use Rattle.ray_tree.specs.Trees.{TreeOver}
use Rattle.ray_top.specs.Trees.{items_of, without_tree}
use Rattle.ray_top.proofs.top.Top.tree.Goals as goal

pub returns-clause-over : goal.returns-clause-over
returns-clause-over c = subst (λ t. TreeOver t.tree (items_of (without_tree t))) c.self.view_is c.self.invariant.over
