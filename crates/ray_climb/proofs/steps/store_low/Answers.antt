use Rattle.std.proofs.Common.{◌+◌, ◌*◌, ◌<◌, length, sym, subst}
use Rattle.ray_climb.proofs.Words.{low_in}
use Rattle.ray_climb.proofs.Allowed.{stores_low_at}
use Rattle.ray_climb.proofs.steps.store_low.Goals as goal

pub store-requires : goal.store-requires
store-requires c = (
  c.requires.own,
  subst (λ w. 3 * c.args.at.node + 1 < w) (sym c.requires.table.long) (low_in (length c.args.shared.now.key.tree.nodes) c.args.at.node c.requires.small),
  stores_low_at _ _ _ _ c.args.at.leaf c.args.at.node c.args.at.low _ c.requires.hand,
)
