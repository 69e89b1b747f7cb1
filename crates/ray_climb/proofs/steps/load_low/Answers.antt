use Rattle.std.proofs.Common.{◌+◌, ◌*◌, ◌<◌, length, sym, subst}
use Rattle.ray_climb.proofs.Words.{low_in}
use Rattle.ray_climb.proofs.Framed.{framed}
use Rattle.ray_climb.proofs.Allowed.{loads_low_told}
use Rattle.ray_climb.proofs.steps.load_low.Goals as goal

pub load-found-requires : goal.load-found-requires
load-found-requires c = (
  c.requires.own,
  subst (λ w. 3 * c.args.up.sibling + 1 < w) (sym c.requires.table.long) (low_in (length c.args.shared.now.key.tree.nodes) c.args.up.sibling c.requires.up.sibling_small),
  loads_low_told _ (framed _ _ c.requires.table) _ _ _ c.args.at.leaf c.args.up.parent c.args.at.node c.args.at.low c.args.up.sibling _ c.requires.hand
      c.requires.up.parent c.requires.up.sibling,
)
