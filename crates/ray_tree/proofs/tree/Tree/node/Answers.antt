use Rattle.std.proofs.Common.{sym, subst, length}
use Rattle.ray_tree.specs.Local.{IsFit}
use Rattle.ray_tree.proofs.Locals.{fit_at}
use Rattle.ray_tree.proofs.tree.Tree.node.Goals as goal

pub returns-clause-limits : goal.returns-clause-limits
returns-clause-limits c =
    let tree = c.args.self.now in
    subst (IsFit (length tree.order) (length tree.nodes)) (sym c.plain_node.ensures) (fit_at tree c.shape.ensures c.args.i c.requires)
