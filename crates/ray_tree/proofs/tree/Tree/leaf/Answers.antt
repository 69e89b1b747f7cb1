use Rattle.std.proofs.Common.{sym, subst}
use Rattle.ray_tree.specs.Local.{IsLeafAt}
use Rattle.ray_tree.proofs.Tips.{leaf_at}
use Rattle.ray_tree.proofs.tree.Tree.leaf.Goals as goal

pub returns-clause-limits : goal.returns-clause-limits
returns-clause-limits c =
    let tree = c.args.self.now in
    subst (IsLeafAt tree) (sym c.plain_leaf.ensures) (leaf_at tree c.shape.ensures c.args.k c.requires)
